-- What the theorem says of the answer of a table with revised equations (document 02, (vii); proofs/Revised.antt).
use Rattle.std.specs.Prelude.{◌≡◌, List, ℕ, suc}
use Rattle.terms.specs.declared.Row.{Row}
use Rattle.terms.specs.Table.{rows_of, row_numbers, counting}
use Rattle.answers.specs.Solve.{ties_to, solved_rows, answer_record, solve_record, answer_after, work_after}

-- (d) A table and what counts in it have the same record, the row of a never and the ties among it, and the same answer rows; and so have the
-- calls that are lent the one or the other.
pub record SameCounting (table : List ℕ) : Type 0 where
  pub same_record : answer_record (counting (rows_of table)) ≡ answer_record (rows_of table)
  pub same_rows : solved_rows (counting (rows_of table)) ≡ solved_rows (rows_of table)
  pub same_call : (answerRoom work_room : ℕ) → solve_record (row_numbers (counting (rows_of table))) answerRoom work_room ≡ solve_record table answerRoom work_room
  pub same_table : (old : List ℕ) (work_room : ℕ) → answer_after (row_numbers (counting (rows_of table))) old work_room ≡ answer_after table old work_room
  pub same_work : (answerRoom : ℕ) (old : List ℕ) → work_after (row_numbers (counting (rows_of table))) answerRoom old ≡ work_after table answerRoom old

-- (h) Row r gives no tie, and is not the row of a never.
pub record SaysNothing (t : List Row) (r : ℕ) : Type 0 where
  pub no_tie : ties_to t (suc r) ≡ ties_to t r
  pub no_never : (answer_record t).outcome ≡ 1 → (answer_record t).row ≡ r → ⊥
