-- What the theorems say of the pattern maker with the answer of a solved table (proofs/Theorems.antt): it makes exactly the assignments that
-- satisfy the table, each from one list of fresh bytes.
use Rattle.std.specs.Prelude.{◌≡◌, true, List, ◌++◌, ℕ, ◌≤◌, length, take, drop}
use Rattle.terms.specs.declared.Row.{Row}
use Rattle.terms.specs.Assignments.{Assignment}
use Rattle.terms.specs.Calls.{completed}
use Rattle.terms.specs.Table.{bits_of, satisfies}
use Rattle.answers.specs.Answer.{answer_numbers, instantiate}
use Rattle.answers.specs.Solve.{solved_rows, answer_record}
use Rattle.assignments.specs.Call.{pattern_record, pattern_after}

-- What the call leaves in a buffer with the old content.
abbrev pub pattern_of : List Row → List ℕ → List ℕ → List ℕ
pattern_of t f old = take (bits_of t) (pattern_after (answer_numbers (solved_rows t)) f old)

-- The call with the answer of a solved table, fresh bytes f and a buffer with the old content: its record, what it writes, and that
-- this is an assignment that satisfies the table.
pub record Makes (t : List Row) (f old : List ℕ) : Type 0 where
  pub returns : pattern_record (answer_numbers (solved_rows t)) f (length old) ≡ completed 0 (bits_of t)
  pub writes : pattern_of t f old ≡ instantiate (solved_rows t) f
  pub keeps : pattern_after (answer_numbers (solved_rows t)) f old ≡ instantiate (solved_rows t) f ++ drop (bits_of t) old
  pub is_assignment : Assignment (bits_of t) (pattern_of t f old)
  pub does_satisfy : satisfies t (pattern_of t f old) ≡ true

-- The only fresh bytes that make an assignment, whatever the buffer holds.
pub record OnlyFresh (t : List Row) (p : List ℕ) : Type 0 where
  pub bytes : List ℕ
  pub are_bits : Assignment (answer_record t).free bytes
  pub make : (old : List ℕ) → bits_of t ≤ length old → pattern_of t bytes old ≡ p
  pub no_other : (f old : List ℕ) → Assignment (answer_record t).free f → bits_of t ≤ length old → pattern_of t f old ≡ p → f ≡ bytes

-- From a solved table to its assignments: all fresh bytes make one, and each is made by exactly one list of them.
pub record MadeFromSolved (t : List Row) : Type 0 where
  pub every_fresh : (f old : List ℕ) → Assignment (answer_record t).free f → bits_of t ≤ length old → Makes t f old
  pub every_assignment : (p : List ℕ) → Assignment (bits_of t) p → satisfies t p ≡ true → OnlyFresh t p
