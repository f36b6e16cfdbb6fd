-- What the writer of an answer row's own four numbers promises, and the search for a variable's first row.
use Rattle.std.specs.Prelude.{cond, List, ℕ, ◌*◌, ltb, length, Option, Some, None}
use Rattle.laws.specs.Buffers.{set_four}
use Rattle.answers.specs.declared.AnswerRow.{AnswerRow}
use Rattle.answers.specs.inner.FourNumbers.{four_length}
use Rattle.answers.specs.RightSide.{rows_before}

-- A table of rows with four numbers in which row i is written, as far as it reaches.
unfoldable pub four_put : List ℕ → ℕ → AnswerRow → List ℕ
four_put answer i r = set_four answer (i * four_length) r.variable r.kind r.width r.fresh

-- The first row of a variable, if there is one.
unfoldable pub first_of : ℕ → List ℕ → Option ℕ
first_of variable vs = cond (ltb (rows_before variable vs) (length vs)) (Some (rows_before variable vs)) None
