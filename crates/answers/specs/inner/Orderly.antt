-- Rows in order, as passes over home and high bit of an answer's rows ask for them. No host's contract reaches this.
use Rattle.std.specs.Prelude.{◌≡◌, true, List, ℕ, ◌≤◌, ◌<◌, length, drop}
use Rattle.answers.specs.declared.AnswerRow.{AnswerRow}
use Rattle.answers.specs.Answer.{answer_row_at, is_fresh, width_in_rows}

-- Rows whose variables do not fall.
abbrev pub Ordered : List AnswerRow → Type 0
Ordered rows = (i j : ℕ) → i ≤ j → j < length rows → (answer_row_at rows i).variable ≤ (answer_row_at rows j).variable

-- Besides, widths are few, and a fresh number is not above all those before it and the next one.
pub record Orderly (rows : List AnswerRow) : Type 0 where
  pub few : length rows ≤ 4096
  pub rising : Ordered rows
  pub short : (j v : ℕ) → width_in_rows (drop j rows) v ≤ 4096
  pub numbered : (j seen : ℕ) → j < length rows → is_fresh (answer_row_at rows j) ≡ true
      → ((i : ℕ) → i < j → is_fresh (answer_row_at rows i) ≡ true → (answer_row_at rows i).fresh < seen) → (answer_row_at rows j).fresh ≤ seen
