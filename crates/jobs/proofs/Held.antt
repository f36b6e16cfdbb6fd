-- What holds each place of a table: (e) the fixed bit that it is in every pattern left, and else the lowest place that equals it in all of them. Assumes nothing.
use mathlib.Core.Path.{◌≡◌, refl, sym, ◌∙◌, ap}
use mathlib.Core.Bool.{Bool, true, false, not, ◌||◌}
use mathlib.Core.List.{List}
use mathlib.Core.Logic.{⊎_elim}
use Prim.Native.Nat.{ℕ, suc, ◌+◌, ◌-◌, ◌<◌, ◌≤◌}
use native.Mathlib.Omega.{arith}
use lib.Dec.{eqb}
use lib.ListN.{length, get_or, length-map}
use borrow.Author.Tests.{eqb-true, eq-eqb, lt-ltb, le-ltb}
use Rattle.laws.specs.Lists.{count_up}
use Rattle.laws.proofs.Bools.{not_both}
use Rattle.laws.proofs.CountUp.{count-up, count_read}
use Rattle.laws.proofs.Least.{least_within, least-passed, least_found}
use Rattle.laws.proofs.Numbers.{lt_or_le, two}
use Rattle.laws.proofs.Tallies.{implied}
use Rattle.terms.specs.declared.Row.{Row}
use Rattle.terms.specs.Assignments.{Assignment}
use Rattle.terms.specs.Table.{rows_of, bits_of, bit_of, satisfies}
use Rattle.terms.specs.Faults.{Accepted, first_fault}
use Rattle.terms.specs.Counting.{MeetsBefore, NoLines}
use Rattle.terms.proofs.AcceptedTable.{table_bits}
use Rattle.terms.proofs.Assignments.{every_at, every_of}
use Rattle.answers.specs.Pairs.{equal_under}
use Rattle.answers.specs.Never.{SomeLeft}
use Rattle.answers.proofs.Agreement.{place_bit, fixed-bit}
use Rattle.jobs.specs.Prefix.{up_to, holder, host_number, holders}
use Rattle.jobs.specs.Claims.{FixedBefore, HeldFixed, HeldLowest, LowestEqual}
use Rattle.jobs.proofs.PrefixPairs.{up_bits}
use Rattle.jobs.proofs.Meeting.{up_meets}

-- ---- as many as there are places
pub holders-length : (t : List Row) → length (holders t) ≡ bits_of t
unfolding holders
holders-length t = length-map (count_up 2 (bits_of t)) (λ s. host_number (holder t s)) ∙ count-up 2 (bits_of t)

pub holders_at : (t : List Row) (i : ℕ) → i < bits_of t → get_or (holders t) i 0 ≡ host_number (holder t (suc (suc i)))
unfolding holders
holders_at t i l = count_read (λ s. host_number (holder t s)) 2 (bits_of t) i 0 l ∙ ap (λ (s : ℕ). host_number (holder t s)) (two i)

module _ (table : List ℕ) (accepted : first_fault table ≡ Accepted) (none : NoLines (rows_of table)) (r : ℕ) (some : SomeLeft (rows_of table) r) where
  abbrev t : List Row
  t = rows_of table

  abbrev u : List Row
  u = up_to r (rows_of table)

  -- two sources in the patterns that are left
  abbrev Same : ℕ → ℕ → Type 0
  Same s v = (p : List ℕ) → Assignment (bits_of (rows_of table)) p → MeetsBefore (rows_of table) r p → bit_of p s ≡ bit_of p v

  abbrev same : ℕ → ℕ → Bool
  same = equal_under (bits_of u) (satisfies u)

  same_to : (s v : ℕ) → same s v ≡ true → Same s v
  unfolding equal_under
  same_to s v h p a m =
      eqb-true (bit_of p s) (bit_of p v)
      (implied (satisfies u p) (eqb (bit_of p s) (bit_of p v))
      (every_at (bits_of u) (λ p. not (satisfies u p) || eqb (bit_of p s) (bit_of p v)) h p (rw (up_bits r t) a))
      ((up_meets t none r p).of m))

  same_of : (s v : ℕ) → Same s v → same s v ≡ true
  unfolding equal_under
  same_of s v h =
      every_of (bits_of u) (λ p. not (satisfies u p) || eqb (bit_of p s) (bit_of p v))
      (λ p a. go p (rw (up_bits r t) at a) (satisfies u p) refl)
    where
      go : (p : List ℕ) → Assignment (bits_of t) p → (b : Bool) → satisfies u p ≡ b → not b || eqb (bit_of p s) (bit_of p v) ≡ true
      go p a false e = refl
      go p a true e = eq-eqb (bit_of p s) (bit_of p v) (h p a ((up_meets t none r p).to e))

  -- a place and what holds it
  module _ (i : ℕ) (inside : i < bits_of (rows_of table)) where
    held : ℕ
    held = holder u (suc (suc i))

    value : get_or (holders u) i 0 ≡ host_number held
    unfolding held
    value = holders_at u i (omega (arith, up_bits r t))

    low : held ≤ suc (suc i)
    unfolding held holder
    low = omega (arith, (least_within (same (suc (suc i))) 0 (suc (suc i))).1)

    holds : Same (suc (suc i)) held
    unfolding held holder
    holds =
        let e : 0 + suc (suc i) ≡ suc (suc i) = omega arith in
        same_to (suc (suc i)) (holder u (suc (suc i)))
        (unfold holder in (least_found (same (suc (suc i))) 0 (suc (suc i)) (rw e (same_of (suc (suc i)) (suc (suc i)) (λ p a m. refl)))))

    passed : (j : ℕ) → j < held → Same (suc (suc i)) j → ⊥
    unfolding held holder
    passed j l h = not_both (same_of (suc (suc i)) j h) (least-passed (same (suc (suc i))) 0 (suc (suc i)) j (omega arith) l)

    few : i < 4096
    few = omega (arith, inside, table_bits table accepted)

    fixed_same : (b : ℕ) → b ≤ 1 → FixedBefore t r i b → Same (suc (suc i)) b
    fixed_same b l h p a m = place_bit p i ∙ h p a m ∙ sym (fixed-bit p b l)

    same_fixed : (b : ℕ) → b ≤ 1 → Same (suc (suc i)) b → FixedBefore t r i b
    same_fixed b l h p a m = sym (place_bit p i) ∙ h p a m ∙ fixed-bit p b l

    -- (e)
    pub held_fixed : (b : ℕ) → b ≤ 1 → HeldFixed (rows_of table) r i b
    unfolding host_number
    held_fixed b l = record { to = λ e. to (sym value ∙ e); of = of }
      where
        to : host_number held ≡ 4096 + b → FixedBefore t r i b
        to e =
            ⊎_elim (λ m. same_fixed b l (let q : held ≡ b = omega (arith, rw (lt-ltb held 2 m) at e) in rw q at holds))
            (λ m. absurd (omega (arith, rw (le-ltb held 2 m) at e, low, few)))
            (lt_or_le held 2)

        of : FixedBefore t r i b → get_or (holders u) i 0 ≡ 4096 + b
        of h =
            ⊎_elim (λ m. absurd (passed b m (fixed_same b l h)))
            (λ m.
            let p = some.pattern in
            let q : held ≡ b = sym (fixed-bit p held (omega arith)) ∙ sym (holds p some.bits some.meets) ∙ place_bit p i ∙ h p some.bits some.meets in
            value ∙ rw (lt-ltb held 2 (omega arith)) (ap (λ (n : ℕ). 4096 + n) q))
            (lt_or_le b held)

    pub held-lowest : HeldLowest (rows_of table) r i
    unfolding host_number
    held-lowest zero-not one-not = ⊎_elim (λ m. absurd (fixed m)) place (lt_or_le held 2)
      where
        fixed : held < 2 → ⊥
        fixed m =
            ⊎_elim (λ z. zero-not (same_fixed 0 (omega arith) (let q : held ≡ 0 = omega arith in rw q at holds)))
            (λ z. one-not (same_fixed 1 (omega arith) (let q : held ≡ 1 = omega arith in rw q at holds)))
            (lt_or_le held 1)

        place : 2 ≤ held → LowestEqual t r i (get_or (holders u) i 0)
        place m =
            let q : suc (suc (held - 2)) ≡ held = omega arith in
            let e : get_or (holders u) i 0 ≡ held - 2 = value ∙ rw (le-ltb held 2 m) in
            rw e
            (record {
              no_higher = omega (arith, low);
              equal = λ p a k. sym (place_bit p i) ∙ holds p a k ∙ ap (bit_of p) (sym q) ∙ place_bit p (held - 2);
              lowest = λ j l h. passed (suc (suc j)) (omega arith) (λ p a k. place_bit p i ∙ h p a k ∙ sym (place_bit p j));
            })
