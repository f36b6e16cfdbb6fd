-- The call on lent buffers: without room it is refused 10; with room, an accepted table is never refused and its record is the table's;
-- for outcome 2 the rows stand at the beginning of the answer table. So demands 2 and 3 are about the call; and outcomes 0 to 2 are for
-- accepted tables alone. Assumes nothing.
use mathlib.Core.Path.{◌≡◌, refl, sym, ◌∙◌, ap}
use mathlib.Core.Bool.{Bool, true, false, or-true}
use mathlib.Core.List.{List}
use Prim.Native.Nat.{ℕ, ◌*◌, ◌≤◌, ◌<◌}
use native.Mathlib.Omega.{arith}
use lib.Dec.{ltb}
use lib.ListN.{length, take, drop, replicate}
use lib.Seq.{take_at}
use borrow.Author.Tests.{le-ltb, lt-ltb}
use Rattle.terms.specs.Acceptance.{Exactly}
use Rattle.terms.specs.Calls.{fault_number, refusal, stop_at}
use Rattle.terms.specs.Faults.{Accepted, first_fault, is_accepted}
use Rattle.terms.specs.Table.{rows_of, bits_of, satisfies}
use Rattle.terms.proofs.AcceptedTable.{fault_none, fault_high, table_bits}
use Rattle.laws.proofs.Buffers.{overwrite-fits}
use Rattle.answers.specs.Answer.{variable_widths, answer_numbers}
use Rattle.answers.specs.Pairs.{equal_under}
use Rattle.answers.specs.Solve.{solved_rows, answer_record, solve_record, answer_after, work_after}
use Rattle.answers.proofs.AnswerNumbers.{numbers_length}
use Rattle.answers.proofs.Tables.{rows_few}
use Rattle.answers.proofs.Demands.{demand_3}

-- A call whose answer table is below 24,576 numbers, or whose work area is below 16,384, is refused 10, whatever its table.
pub no_answer_room : (table : List ℕ) (answerRoom work_room : ℕ) → answerRoom < 24576 → solve_record table answerRoom work_room ≡ refusal 10 0
unfolding solve_record stop_at
no_answer_room table answerRoom work_room l = rw (lt-ltb answerRoom 24576 l) refl

pub no_work_room : (table : List ℕ) (answerRoom work_room : ℕ) → work_room < 16384 → solve_record table answerRoom work_room ≡ refusal 10 0
unfolding solve_record stop_at
no_work_room table answerRoom work_room l = rw (lt-ltb work_room 16384 l, or-true (ltb answerRoom 24576)) refl

-- 24,576 numbers are enough for the rows of an accepted table.
pub few_numbers : (table : List ℕ) → first_fault table ≡ Accepted → length (answer_numbers (solved_rows (rows_of table))) ≤ 24576
unfolding solved_rows
few_numbers table accepted =
    omega (arith, table_bits table accepted, numbers_length (solved_rows (rows_of table)), rows_few (bits_of (rows_of table)) (variable_widths (rows_of table)) (equal_under (bits_of (rows_of table)) (satisfies (rows_of table))))

module _ (table : List ℕ) (accepted : first_fault table ≡ Accepted) (old work : List ℕ) (room : 24576 ≤ length old) (memory : 16384 ≤ length work) where
  -- A call with room is refused only for a fault of its table.
  pub call_record : solve_record table (length old) (length work) ≡ answer_record (rows_of table)
  unfolding solve_record stop_at
  call_record = rw (le-ltb (length old) 24576 room, le-ltb (length work) 16384 memory, accepted) refl

  -- Every number of the work area is 0 afterwards.
  pub call_work : work_after table (length old) work ≡ replicate (length work) 0
  unfolding work_after
  call_work = rw (call_record, lt-ltb (answer_record (rows_of table)).outcome 3 (omega (arith, (demand_3 table accepted).one_of_three))) refl

  -- For outcome 2 the answer table begins with the answer's rows, and as many as the record's pieces.
  pub call_answer : (answer_record (rows_of table)).outcome ≡ 2
      → take ((answer_record (rows_of table)).pieces * 6) (answer_after table old (length work)) ≡ answer_numbers (solved_rows (rows_of table))
  unfolding answer_after
  call_answer e =
      let count : (answer_record (rows_of table)).pieces * 6 ≡ length (answer_numbers (solved_rows (rows_of table))) =
      ap (λ (n : ℕ). n * 6) ((demand_3 table accepted).solved_pieces e) ∙ sym (numbers_length (solved_rows (rows_of table))) in
      rw (call_record, e)
      (ap (λ (l : List ℕ). take ((answer_record (rows_of table)).pieces * 6) l) (overwrite-fits (answer_numbers (solved_rows (rows_of table))) old (omega (arith, few_numbers table accepted)))
      ∙ take_at (answer_numbers (solved_rows (rows_of table))) (drop (length (answer_numbers (solved_rows (rows_of table)))) old) ((answer_record (rows_of table)).pieces * 6) (sym count))

-- A solve with room ends with outcome 0, 1 or 2 exactly if the table is accepted.
pub solve_accepts : (table : List ℕ) (answerRoom work_room : ℕ) → 24576 ≤ answerRoom → 16384 ≤ work_room
    → Exactly ((solve_record table answerRoom work_room).outcome ≤ 2) (first_fault table ≡ Accepted)
unfolding solve_record stop_at
solve_accepts table answerRoom work_room room memory =
    record {
      to = λ l. fault_none (first_fault table) (go (is_accepted (first_fault table)) refl l);
      of = λ e. rw (le-ltb answerRoom 24576 room, le-ltb work_room 16384 memory, e) (demand_3 table e).one_of_three;
    }
  where
    go : (b : Bool) → is_accepted (first_fault table) ≡ b → (solve_record table answerRoom work_room).outcome ≤ 2 → b ≡ true
    go true h l = refl
    go false h l =
        let high : fault_number (first_fault table) ≤ 2 = rw (le-ltb answerRoom 24576 room, le-ltb work_room 16384 memory, h) at l in
        absurd (omega (arith, fault_high (first_fault table) h))
