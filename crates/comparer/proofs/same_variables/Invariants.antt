-- `same_variables` meets its contract: what the rests of both tables say is what all rows say. Assumes nothing.
use mathlib.Core.Path.{◌≡◌}
use Rattle.terms.specs.Table.{rows_of, same_word}
use Rattle.answers.specs.Answer.{variable_widths}
use Rattle.comparer.proofs.Variables.{rests_same}
use Rattle.comparer.proofs.same_variables.Given as goal

abbrev pub invariant-loop-r : goal.invariant-loop-r
invariant-loop-r l = rests_same (rows_of l.first) (rows_of l.second) l.r l.q ≡ same_word (variable_widths (rows_of l.first)) (variable_widths (rows_of l.second))
