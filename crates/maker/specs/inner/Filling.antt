-- What the functions that fill an answer table compute and promise.
use Rattle.std.specs.Prelude.{◌≡◌, cond, List, [], ◌∷◌, ◌++◌, ℕ, zero, suc, ◌+◌, ◌≤◌, eqb, ltb, length, get_or}
use Rattle.laws.specs.Buffers.{overwrite}
use Rattle.terms.specs.declared.Record.{Record}
use Rattle.terms.specs.Calls.{refusal, completed, stop_at}
use Rattle.answers.specs.Answer.{instantiate, answer_rows_of}
use Rattle.assignments.specs.Form.{pattern_bits}
use Rattle.assignments.specs.Call.{wrong_fresh}
use Rattle.shapes.specs.declared.Found.{Found}
use Rattle.shapes.specs.inner.Shapes.{Shaped}

-- A byte of a row: a fill's bit, or byte i of the fresh bits.
unfoldable pub byte_in : List ℕ → ℕ → ℕ → ℕ
byte_in fresh kind i = cond (ltb kind 2) kind (get_or fresh i 0)

-- The first n bytes of a row, the fresh bits from a start on.
unfoldable pub bytes_in : List ℕ → ℕ → ℕ → ℕ → List ℕ
bytes_in fresh kind start zero = []
bytes_in fresh kind start (suc n) = bytes_in fresh kind start n ++ (byte_in fresh kind (start + n) ∷ [])

-- What the writing of the rows promises, where the fresh bits are as many as the table has and the output has room.
abbrev pub WritesRows : List ℕ → List ℕ → List ℕ → List ℕ → List ℕ → Type 0
WritesRows answer fresh starts out out' =
    (bits free : ℕ) → Shaped (answer_rows_of answer) starts bits free → length fresh ≡ free → bits ≤ length out
    → out' ≡ overwrite (instantiate (answer_rows_of answer) fresh) out

-- The record of a table that has the form, where the output has room for so many bytes: 34, 32, or the bits of the pattern.
unfoldable pub fill_record : List ℕ → List ℕ → ℕ → Record
fill_record answer fresh room =
    stop_at
    ((wrong_fresh answer fresh, refusal 34 0) ∷ (ltb room (pattern_bits (answer_rows_of answer)), refusal 32 0) ∷ [])
    (completed 0 (pattern_bits (answer_rows_of answer)))

-- The output then: the pattern and what was there behind it; what was there, if the call is refused.
unfoldable pub fill_after : List ℕ → List ℕ → List ℕ → List ℕ
fill_after answer fresh old = cond (eqb (fill_record answer fresh (length old)).outcome 0) (overwrite (instantiate (answer_rows_of answer) fresh) old) old

-- A table was filled, or it was refused to fill it.
pub record Filled (answer fresh old out : List ℕ) (r : Record) : Type 0 where
  pub record_is : r ≡ fill_record answer fresh (length old)
  pub pattern_is : out ≡ fill_after answer fresh old

-- What the filling promises, where the counts and the starts are those of the table.
abbrev pub Fills : List ℕ → Found → List ℕ → List ℕ → List ℕ → List ℕ → Record → Type 0
Fills answer found fresh starts old out r = Shaped (answer_rows_of answer) starts found.bits found.free → Filled answer fresh old out r
