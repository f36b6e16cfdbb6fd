-- Acceptance both ways: the first fault of a table is the one that says what is so (specs/Acceptance.antt). The rows are followed from the
-- first on, and a row's rules from the top, in the documents' order. Assumes nothing.
use mathlib.Core.Path.{◌≡◌, refl, sym, ◌∙◌, ap, ap₂, subst}
use mathlib.Core.Bool.{Bool, true, false, cond}
use mathlib.Core.List.{List}
use mathlib.Core.Logic.{⊎_elim}
use Prim.Native.Nat.{ℕ, zero, suc, ◌+◌, ◌-◌, ◌%◌, ◌<◌}
use native.Mathlib.Omega.{arith}
use lib.Dec.{eqb, ltb}
use lib.ListN.{length}
use borrow.Author.Tests.{ltb-false, eqb-true, not-false, le-ltb, eq-eqb}
use Rattle.terms.specs.declared.Row.{Row}
use Rattle.std.specs.Prelude.{Ok, Err}
use Rattle.terms.specs.declared.Fault.TheVariants.{Shape, Kind, Unused, Named, Width, Value, Bounds, Count}
use Rattle.terms.specs.Table.{rows_of}
use Rattle.terms.specs.Calls.{rule_number, fault_number, fault_row}
use Rattle.terms.specs.Faults.{Found, Accepted, nonzero, breaks11, breaks12, breaks13, breaks14, breaks15, breaks40, breaks16, breaks17, fault_at, is_accepted, lowest_fault, first_fault}
use Rattle.terms.specs.Acceptance.{Exactly, WholeRows, KeepsAll, Reaches, Says, Refused, Acceptance}
use Rattle.terms.proofs.RuleOrder.{told_12, told_13, told_14, told_15, told_40, told_16, told_17, told_none}
use Rattle.terms.proofs.Faults.{all_kept, kept, lowest_here, lowest_past}
use Rattle.laws.proofs.Bools.{not_both, or_first, or_second}
use Rattle.laws.proofs.Numbers.{below-or_at}

-- ---- by faults

-- rule 11
pub whole_rows : (numbers : List ℕ) → Exactly (breaks11 numbers ≡ false) (WholeRows numbers)
unfolding breaks11
whole_rows numbers =
    let odd = nonzero (length numbers % 4) in
    let long = ltb 512 (length (rows_of numbers)) in
    record {
      to = λ h.
          record {
            whole = eqb-true (length numbers % 4) 0 (not-false (eqb (length numbers % 4) 0) (or_first odd long h));
            few = ltb-false 512 (length (rows_of numbers)) (or_second odd long h);
          };
      of = λ w. rw (eq-eqb (length numbers % 4) 0 w.whole, le-ltb 512 (length (rows_of numbers)) w.few);
    }

module _ (numbers : List ℕ) where
  abbrev t : List Row
  t = rows_of numbers

  -- what a row's fault says, where the row is reached: its rules from the top
  row_says : (r : ℕ) → Reaches numbers r → is_accepted (fault_at t r) ≡ false → Says (fault_at t r) numbers
  row_says r reach fault =
      first (breaks12 t r) (λ h. says (told_12 t r h) (reach, h)) λ k.
      next k (breaks13 t r) (λ h. says (told_13 t r k h) (reach, k, h)) λ k.
      next k (breaks14 t r) (λ h. says (told_14 t r k h) (reach, k, h)) λ k.
      next k (breaks15 t r) (λ h. says (told_15 t r k h) (reach, k, h)) λ k.
      next k (breaks40 t r) (λ h. says (told_40 t r k h) (reach, k, h)) λ k.
      next k (breaks16 t r) (λ h. says (told_16 t r k h) (reach, k, h)) λ k.
      next k (breaks17 t r) (λ h. says (told_17 t r k h) (reach, k, h)) λ k.
      absurd (not_both (ap is_accepted (told_none t r k)) fault)
    where
      says : {f : Found} → fault_at t r ≡ f → Says f numbers → Says (fault_at t r) numbers
      says e s = subst (λ (f : Found). Says f numbers) (sym e) s

      first : {A : Type 0} (b : Bool) → (b ≡ true → A) → (b ≡ false → A) → A
      first true broken kept = broken refl
      first false broken kept = kept refl

      next : {A K : Type 0} → K → (b : Bool) → (b ≡ true → A) → (K × (b ≡ false) → A) → A
      next k b broken kept = first b broken (λ h. kept (k, h))

  -- what the lowest fault of m rows from row r on says, where they are the last ones and none before them breaks a rule
  rows_say : WholeRows numbers → (m r : ℕ) → r + m ≡ length t → ((i : ℕ) → i < r → KeepsAll t i) → Says (lowest_fault t r m) numbers
  unfolding lowest_fault
  rows_say rows zero r end before = (rows, λ i h. before i (omega arith))
  rows_say rows (suc m) r end before = go (is_accepted (fault_at t r)) refl (rows_say rows m (suc r) (omega arith))
    where
      go : (b : Bool) → is_accepted (fault_at t r) ≡ b → (((i : ℕ) → i < suc r → KeepsAll t i) → Says (lowest_fault t (suc r) m) numbers)
          → Says (cond b (lowest_fault t (suc r) m) (fault_at t r)) numbers
      go true a later = later (λ i h. ⊎_elim (λ l. before i l) (λ e. rw e (all_kept t r (kept t r a))) (below-or_at i r h))
      go false a later = row_says r (record { rows = rows; there = omega arith; before = before }) a

  table_says : Says (first_fault numbers) numbers
  unfolding first_fault
  table_says = go (breaks11 numbers) refl
    where
      go : (b : Bool) → breaks11 numbers ≡ b → Says (cond b (Err Shape) (lowest_fault t 0 (length t))) numbers
      go true h = λ rows. not_both h ((whole_rows numbers).of rows)
      go false h = rows_say ((whole_rows numbers).to h) (length t) 0 (omega arith) (λ i l. absurd (omega arith))

  -- the search for the first fault comes to row r where no row before it breaks a rule, and ends there if that row does
  comes_to : WholeRows numbers → (r m : ℕ) → r + m ≡ length t → ((i : ℕ) → i < r → KeepsAll t i) → first_fault numbers ≡ lowest_fault t r m
  unfolding first_fault
  comes_to rows zero m end before = let all : length t ≡ m = omega arith in rw ((whole_rows numbers).of rows, all) refl
  comes_to rows (suc r) m end before =
      comes_to rows r (suc m) (omega arith) (λ i l. before i (omega arith))
      ∙ lowest_past t r m (ap is_accepted (told_none t r (before r (omega arith))))

  ends-at : (r : ℕ) → Reaches numbers r → (f : Found) → is_accepted f ≡ false → fault_at t r ≡ f → first_fault numbers ≡ f
  ends-at r reach f fault e =
      let there = reach.there in
      let rest = length t - suc r in
      comes_to reach.rows r (suc rest) (omega arith) reach.before ∙ lowest_here t r rest (ap is_accepted e ∙ fault) ∙ e

  -- so the first fault is the one that says what is so
  said : (f : Found) → Says f numbers → first_fault numbers ≡ f
  unfolding first_fault lowest_fault
  said (Ok tt) s = comes_to s.0 (length t) 0 (omega arith) s.1
  said (Err Shape) s = go (breaks11 numbers) refl
    where
      go : (b : Bool) → breaks11 numbers ≡ b → cond b (Err Shape) (lowest_fault t 0 (length t)) ≡ Err Shape
      go true h = refl
      go false h = absurd (s ((whole_rows numbers).to h))
  said (Err (Kind r)) s = ends-at r s.0 (Err (Kind r)) refl (told_12 t r s.1)
  said (Err (Unused r)) s = ends-at r s.0 (Err (Unused r)) refl (told_13 t r s.1 s.2)
  said (Err (Named r)) s = ends-at r s.0 (Err (Named r)) refl (told_14 t r s.1 s.2)
  said (Err (Width r)) s = ends-at r s.0 (Err (Width r)) refl (told_15 t r s.1 s.2)
  said (Err (Value r)) s = ends-at r s.0 (Err (Value r)) refl (told_40 t r s.1 s.2)
  said (Err (Bounds r)) s = ends-at r s.0 (Err (Bounds r)) refl (told_16 t r s.1 s.2)
  said (Err (Count r)) s = ends-at r s.0 (Err (Count r)) refl (told_17 t r s.1 s.2)

  pub fault_exactly : (f : Found) → Exactly (first_fault numbers ≡ f) (Says f numbers)
  fault_exactly f = record { to = λ e. subst (λ (f : Found). Says f numbers) e table_says; of = said f }

-- ---- by numbers

-- the fault that has a number and a row: no two faults have the same
numbered : ℕ → ℕ → Found
numbered n r =
    cond (eqb n (rule_number Shape)) (Err Shape)
    (cond (eqb n (rule_number (Kind r))) (Err (Kind r))
    (cond (eqb n (rule_number (Unused r))) (Err (Unused r))
    (cond (eqb n (rule_number (Named r))) (Err (Named r))
    (cond (eqb n (rule_number (Width r))) (Err (Width r))
    (cond (eqb n (rule_number (Value r))) (Err (Value r))
    (cond (eqb n (rule_number (Bounds r))) (Err (Bounds r))
    (cond (eqb n (rule_number (Count r))) (Err (Count r))
    Accepted)))))))

numbered_is : (f : Found) → numbered (fault_number f) (fault_row f) ≡ f
unfolding numbered
numbered_is (Ok tt) = refl
numbered_is (Err Shape) = refl
numbered_is (Err (Kind r)) = refl
numbered_is (Err (Unused r)) = refl
numbered_is (Err (Named r)) = refl
numbered_is (Err (Width r)) = refl
numbered_is (Err (Value r)) = refl
numbered_is (Err (Bounds r)) = refl
numbered_is (Err (Count r)) = refl

pub number_exactly : (numbers : List ℕ) (f : Found) → Exactly (Refused numbers (fault_number f) (fault_row f)) (Says f numbers)
number_exactly numbers f =
    record {
      to = λ e. (fault_exactly numbers f).to (sym (numbered_is (first_fault numbers)) ∙ ap₂ numbered e.0 e.1 ∙ numbered_is f);
      of = λ s. let e = (fault_exactly numbers f).of s in (ap fault_number e, ap fault_row e);
    }

-- no fault has the number 18
pub fault_never_18 : (f : Found) → fault_number f ≡ 18 → ⊥
fault_never_18 (Ok x) e = omega arith
fault_never_18 (Err Shape) e = omega arith
fault_never_18 (Err (Kind r)) e = omega arith
fault_never_18 (Err (Unused r)) e = omega arith
fault_never_18 (Err (Named r)) e = omega arith
fault_never_18 (Err (Width r)) e = omega arith
fault_never_18 (Err (Value r)) e = omega arith
fault_never_18 (Err (Bounds r)) e = omega arith
fault_never_18 (Err (Count r)) e = omega arith

-- Acceptance and each number of a table's refusals, both ways; and 18 is none of them.
pub acceptance : (numbers : List ℕ) → Acceptance numbers
acceptance numbers =
    record {
      accepted = fault_exactly numbers Accepted;
      refused_11 = number_exactly numbers (Err Shape);
      refused_12 = λ r. number_exactly numbers (Err (Kind r));
      refused_13 = λ r. number_exactly numbers (Err (Unused r));
      refused_14 = λ r. number_exactly numbers (Err (Named r));
      refused_15 = λ r. number_exactly numbers (Err (Width r));
      refused_40 = λ r. number_exactly numbers (Err (Value r));
      refused_16 = λ r. number_exactly numbers (Err (Bounds r));
      refused_17 = λ r. number_exactly numbers (Err (Count r));
      never_18 = λ r e. fault_never_18 (first_fault numbers) e.0;
    }
