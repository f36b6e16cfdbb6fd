-- How many words a window has.
use Rattle.std.specs.Prelude.{cond, List, Option, Some, None, ℕ, eqb}
use Rattle.terms.specs.declared.Row.{Row}
use Rattle.terms.specs.Table.{count_kind}
use Rattle.answers.specs.Answer.{variable_widths}
use Rattle.windows.specs.Words.{sixteens}

-- One for each variable, if each has 16 bits; else 0.
unfoldable pub window_of : List Row → ℕ
window_of t = cond (sixteens (variable_widths t)) (count_kind 0 t) 0

-- The same where there is a word.
unfoldable pub some_window : List Row → Option ℕ
some_window t = cond (eqb (window_of t) 0) None (Some (window_of t))
