-- What theorem `same_solver` (proofs/SameSolver.antt) says of the two solvers.
use Rattle.std.specs.Prelude.{◌≡◌, List, ℕ, length}
use Rattle.terms.specs.declared.Record.{Record}
use Rattle.answers.specs.Solve.{solve_record, answer_after, work_after}

-- What the contract of either one says of a call: its record, and the answer table and the work area afterwards.
pub record Says (table answer work : List ℕ) (r : Record) (answer' work' : List ℕ) : Type 0 where
  pub record_is : r ≡ solve_record table (length answer) (length work)
  pub answer_is : answer' ≡ answer_after table answer (length work)
  pub work_is : work' ≡ work_after table (length answer) work

-- The records, the answer tables and the work areas of two calls are the same.
pub record Same (r r' : Record) (answer answer' work work' : List ℕ) : Type 0 where
  pub record_same : r ≡ r'
  pub answer_same : answer ≡ answer'
  pub work_same : work ≡ work'
