-- What the inner functions of a solve promise, once the table is accepted.
use Rattle.std.specs.Prelude.{◌≡◌, cond, List, ℕ, ◌*◌, ◌≤◌, eqb, length}
use Rattle.terms.specs.declared.Record.{Record}
use Rattle.terms.specs.declared.Row.{Row}
use Rattle.terms.specs.Table.{rows_of, bits_of}
use Rattle.terms.specs.Faults.{Accepted, first_fault}
use Rattle.terms.specs.inner.Placed.{Placed}
use Rattle.laws.specs.Buffers.{overwrite}
use Rattle.answers.specs.Answer.{variable_widths, answer_numbers}
use Rattle.answers.specs.inner.FourNumbers.{four_numbers}
use Rattle.answers.specs.Solve.{solved_rows, answer_record}
use Rattle.linking.specs.inner.Classes.{ClassesTaken}

-- The answer table of an accepted table: for outcome 2 the rows in front of what was there; and before its homes are set, when each row
-- has four numbers.
unfoldable pub answer_over : List Row → List ℕ → List ℕ
answer_over t old = cond (eqb (answer_record t).outcome 2) (overwrite (answer_numbers (solved_rows t)) old) old

unfoldable pub fours_over : List Row → List ℕ → List ℕ
fours_over t old = cond (eqb (answer_record t).outcome 2) (overwrite (four_numbers (solved_rows t)) old) old

-- The record and the answer table are those of an accepted table; before its homes are set, and then.
pub record Concluded (t : List Row) (answer answer' : List ℕ) (r : Record) : Type 0 where
  pub record_is : r ≡ answer_record t
  pub fours_are : answer' ≡ fours_over t answer

pub record Answered (t : List Row) (answer answer' : List ℕ) (r : Record) : Type 0 where
  pub record_is : r ≡ answer_record t
  pub answer_is : answer' ≡ answer_over t answer

-- An accepted table with the variables of another and as many rows, the equations of which were taken. Only variables and the number of rows
-- are read from the table lent, so the answer is that of any such table.
pub record TakenOf (table other : List ℕ) (links : List ℕ) (row ties : ℕ) : Type 0 where
  pub accepted : first_fault other ≡ Accepted
  pub variables : variable_widths (rows_of other) ≡ variable_widths (rows_of table)
  pub as_many : length (rows_of other) ≡ length (rows_of table)
  pub taken : ClassesTaken (rows_of other) links row ties

-- What is made of the equations that were taken, whatever room the answer table has.
abbrev pub Concludes : List ℕ → ℕ → ℕ → ℕ → List ℕ → List ℕ → List ℕ → Record → Type 0
Concludes table bits row ties links answer answer' found =
    first_fault table ≡ Accepted → bits ≡ bits_of (rows_of table) → (other : List ℕ) → TakenOf table other links row ties
    → Concluded (rows_of other) answer answer' found

-- The same with the homes, with room for the first row of each fresh piece and for the answer, six numbers for each variable bit.
abbrev pub AnswersTaken : List ℕ → ℕ → ℕ → ℕ → List ℕ → ℕ → List ℕ → List ℕ → Record → Type 0
AnswersTaken table bits row ties links firstsRoom answer answer' found =
    first_fault table ≡ Accepted → bits ≡ bits_of (rows_of table) → 4096 ≤ firstsRoom → bits * 6 ≤ length answer → (other : List ℕ) → TakenOf table other links row ties
    → Answered (rows_of other) answer answer' found

-- The answer of a table that was placed, with room for the normal form of a side and for the answer.
abbrev pub AnswersTable : List ℕ → List ℕ → List ℕ → ℕ → ℕ → List ℕ → List ℕ → Record → Type 0
AnswersTable table widths places bits formRoom answer answer' found =
    Placed table widths places → bits ≡ bits_of (rows_of table) → 4096 ≤ formRoom → bits * 6 ≤ length answer → Answered (rows_of table) answer answer' found
