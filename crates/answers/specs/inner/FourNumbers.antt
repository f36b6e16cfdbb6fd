-- Answer rows with their own four numbers alone, as they are written before home and high of each are known. No host's contract reaches these.
use Rattle.std.specs.Prelude.{List, [], ◌∷◌, ℕ, ◌+◌, get_or}
use Rattle.answers.specs.declared.AnswerRow.{AnswerRow}

abbrev pub four_length : ℕ
four_length = 4

unfoldable pub four_numbers : List AnswerRow → List ℕ
four_numbers [] = []
four_numbers (r ∷ rows) = r.variable ∷ r.kind ∷ r.width ∷ r.fresh ∷ four_numbers rows

-- The row whose own four numbers stand from a place on.
abbrev pub answer_columns : List ℕ → ℕ → AnswerRow
answer_columns t at = record { variable = get_or t at 0; kind = get_or t (at + 1) 0; width = get_or t (at + 2) 0; fresh = get_or t (at + 3) 0 }
