-- Each way in which a solve ends gives the record, the answer table and the work area of the definitions.
use mathlib.Core.Path.{◌≡◌, refl}
use mathlib.Core.Bool.{false}
use mathlib.Core.List.{List}
use Prim.Native.Nat.{ℕ, ◌≤◌, ◌<◌}
use native.Mathlib.Omega.{arith}
use lib.Dec.{eqb, ltb}
use lib.ListN.{length, replicate}
use borrow.Author.Tests.{lt-ltb, le-ltb}
use Rattle.terms.specs.declared.Record.{Record}
use Rattle.std.specs.Prelude.{Ok, Err}
use Rattle.terms.specs.declared.Fault.TheVariants.{Shape, Kind, Unused, Named, Width, Value, Bounds, Count}
use Rattle.terms.specs.Table.{rows_of}
use Rattle.terms.specs.Calls.{refusal, fault_number, fault_record, stop_at}
use Rattle.terms.specs.Faults.{Found, Accepted, is_accepted, first_fault}
use Rattle.answers.specs.Solve.{answer_record, solve_record, answer_after, work_after}
use Rattle.answers.proofs.Demands.{demand_3}
use Rattle.solver.specs.inner.Call.{answer_over, Answered}

-- the record, the answer table and the work area of a call
abbrev pub Ends : List ℕ → List ℕ → List ℕ → Record → List ℕ → List ℕ → Type 0
Ends table answer work r answer' work' =
    (r ≡ solve_record table (length answer) (length work)) × ((answer' ≡ answer_after table answer (length work)) × (work' ≡ work_after table (length answer) work))

-- refused for want of memory
pub stop_answer : (table answer work : List ℕ) → length answer < 24576 → (r : Record) → r ≡ refusal 10 0 → Ends table answer work r answer work
unfolding solve_record stop_at answer_after work_after
stop_answer table answer work l r e = rw (lt-ltb (length answer) 24576 l) (e, (refl, refl))

pub stop_work : (table answer work : List ℕ) → 24576 ≤ length answer → length work < 16384 → (r : Record) → r ≡ refusal 10 0 → Ends table answer work r answer work
unfolding solve_record stop_at answer_after work_after
stop_work table answer work k l r e = rw (le-ltb (length answer) 24576 k, lt-ltb (length work) 16384 l) (e, (refl, refl))

-- refused for a fault of the table
pub fault_high : (f : Found) → is_accepted f ≡ false → (eqb (fault_number f) 2 ≡ false) × (ltb (fault_number f) 3 ≡ false)
fault_high (Ok x) h = let z : ◌≡◌ {A = ℕ} 0 1 = cc in absurd (omega arith)
fault_high (Err Shape) h = (refl, refl)
fault_high (Err (Kind r)) h = (refl, refl)
fault_high (Err (Unused r)) h = (refl, refl)
fault_high (Err (Named r)) h = (refl, refl)
fault_high (Err (Width r)) h = (refl, refl)
fault_high (Err (Value r)) h = (refl, refl)
fault_high (Err (Bounds r)) h = (refl, refl)
fault_high (Err (Count r)) h = (refl, refl)

pub stop_fault : (table answer work : List ℕ) → 24576 ≤ length answer → 16384 ≤ length work → is_accepted (first_fault table) ≡ false
    → (r : Record) → r ≡ fault_record (first_fault table) → Ends table answer work r answer work
unfolding solve_record stop_at answer_after work_after
stop_fault table answer work k l h r e =
    let f = fault_high (first_fault table) h in
    rw (le-ltb (length answer) 24576 k, le-ltb (length work) 16384 l, h) (e, (rw f.0 refl, rw f.1 refl))

-- accepted
pub stop_accepted : (table answer work : List ℕ) → 24576 ≤ length answer → 16384 ≤ length work → first_fault table ≡ Accepted
    → (r : Record) (answer' work' : List ℕ) → Answered (rows_of table) answer answer' r → work' ≡ replicate (length work) 0 → Ends table answer work r answer' work'
unfolding solve_record stop_at answer_after work_after answer_over
stop_accepted table answer work k l h r answer' work' A e =
    let three = (demand_3 table h).one_of_three in
    rw (le-ltb (length answer) 24576 k, le-ltb (length work) 16384 l, h) (A.record_is, (A.answer_is, rw (lt-ltb (answer_record (rows_of table)).outcome 3 (omega arith)) e))
