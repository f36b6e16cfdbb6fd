-- What the search for the next variable of a table promises.
use Rattle.std.specs.Prelude.{◌≡◌, List, [], ℕ, ◌<◌, length, drop, Option, None, Some}
use Rattle.terms.specs.declared.Row.{Row}
use Rattle.terms.specs.Table.{row_at}
use Rattle.answers.specs.Answer.{variable_widths}

-- From row `from` on no variable stands before row r, which is one; or there is none.
abbrev pub NextVariable : List Row → ℕ → Option ℕ → Type 0
NextVariable t from None = variable_widths (drop from t) ≡ []
NextVariable t from (Some r) = (r < length t) × ((row_at t r).kind ≡ 0) × (variable_widths (drop from t) ≡ variable_widths (drop r t))
