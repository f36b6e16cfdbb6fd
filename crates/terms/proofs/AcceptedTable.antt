-- What an accepted table is: at most 512 whole rows, none of which breaks a rule; and what it has at the most.
use mathlib.Core.Path.{◌≡◌, refl, ap}
use mathlib.Core.Bool.{true, false}
use mathlib.Core.List.{List}
use Prim.Native.Nat.{ℕ, zero, suc, ◌+◌, ◌%◌, ◌<◌, ◌≤◌}
use native.Mathlib.Omega.{arith}
use lib.Dec.{eqb}
use lib.ListN.{length}
use lib.Seq.{take-length}
use borrow.Author.Tests.{ne_eqb, eq-eqb, le-ltb}
use Rattle.terms.specs.declared.Row.{Row}
use Rattle.std.specs.Prelude.{Ok, Err}
use Rattle.terms.specs.declared.Fault.TheVariants.{Shape, Kind, Unused, Named, Width, Value, Bounds, Count}
use Rattle.terms.specs.Table.{rows_of, row_at, bits_of, count_kind}
use Rattle.terms.specs.Calls.{fault_number}
use Rattle.terms.specs.Faults.{Found, Accepted, breaks11, fault_at, is_accepted, lowest_fault, first_fault, absent}
use Rattle.laws.proofs.Bools.{not_both}
use Rattle.terms.proofs.RuleOrder.{told_none}
use Rattle.terms.proofs.Acceptance.{fault_exactly}
use Rattle.terms.proofs.Faults.{term, Term, term_named, totals_small}
use Rattle.terms.specs.Sound.{Sound}

pub fault_none : (f : Found) → is_accepted f ≡ true → f ≡ Accepted
fault_none (Ok tt) h = refl
fault_none (Err f) h = absurd (not_both h refl)

pub record Table (numbers : List ℕ) : Type 0 where
  pub few : length (rows_of numbers) ≤ 512
  pub whole : length numbers % 4 ≡ 0
  pub sound : Sound (rows_of numbers)

pub accepted_table : (numbers : List ℕ) → first_fault numbers ≡ Accepted → Table numbers
accepted_table numbers e =
    let says = (fault_exactly numbers Accepted).to e in
    record {
      few = says.0.few;
      whole = says.0.whole;
      sound = λ r h. ap is_accepted (told_none (rows_of numbers) r (says.1 r h));
    }

-- how many variables, variable bits and equations it has at the most
pub table_totals : (numbers : List ℕ) → first_fault numbers ≡ Accepted
    → (count_kind 0 (rows_of numbers) ≤ 64) × (bits_of (rows_of numbers) ≤ 4096) × (count_kind 4 (rows_of numbers) ≤ 64)
table_totals numbers e = rw (take-length (rows_of numbers)) at (totals_small (rows_of numbers) (length (rows_of numbers)) (accepted_table numbers e).sound)

pub table_bits : (numbers : List ℕ) → first_fault numbers ≡ Accepted → bits_of (rows_of numbers) ≤ 4096
table_bits numbers e = (table_totals numbers e).1

-- a table no row of which breaks a rule has no lowest fault
none_lowest : (t : List Row) (r n : ℕ) → ((i : ℕ) → r ≤ i → i < r + n → is_accepted (fault_at t i) ≡ true) → lowest_fault t r n ≡ Accepted
unfolding lowest_fault
none_lowest t r zero h = refl
none_lowest t r (suc n) h = rw (h r (omega arith) (omega arith)) (none_lowest t (suc r) n (λ i l m. h i (omega arith) (omega arith)))

-- and the other way round
pub sound_accepted : (numbers : List ℕ) → length numbers % 4 ≡ 0 → length (rows_of numbers) ≤ 512 → Sound (rows_of numbers) → first_fault numbers ≡ Accepted
unfolding first_fault breaks11
sound_accepted numbers whole few sound =
    rw (eq-eqb (length numbers % 4) 0 whole, le-ltb 512 (length (rows_of numbers)) few)
    (none_lowest (rows_of numbers) 0 (length (rows_of numbers)) (λ i l h. sound i (omega arith)))

-- a fault's number is 11 or more, and not 0
pub fault_high : (f : Found) → is_accepted f ≡ false → 11 ≤ fault_number f
fault_high (Ok x) h = absurd (not_both refl h)
fault_high (Err Shape) h = omega arith
fault_high (Err (Kind r)) h = omega arith
fault_high (Err (Unused r)) h = omega arith
fault_high (Err (Named r)) h = omega arith
fault_high (Err (Width r)) h = omega arith
fault_high (Err (Value r)) h = omega arith
fault_high (Err (Bounds r)) h = omega arith
fault_high (Err (Count r)) h = omega arith

pub fault_numbered : (f : Found) → is_accepted f ≡ false → eqb (fault_number f) 0 ≡ false
fault_numbered f h = ne_eqb (fault_number f) 0 (λ e. omega (arith, e, fault_high f h))

-- a row that is not absent is a term
pub term_there : (t : List Row) (row : ℕ) → absent t row ≡ false → Term t (length t) row
unfolding absent
term_there t row a = term t (length t) row a

-- and a term is not absent
pub term_present : (t : List Row) (row : ℕ) → row < length t → ((row_at t row).kind ≡ 4 → ⊥) → absent t row ≡ false
unfolding absent
term_present t row h k = term_named t (length t) row (record { earlier = h; no_equation = k })
