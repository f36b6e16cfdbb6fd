-- The row of a never is the lowest equation row at which no assignment is left (document 01, "The solver's answer"): an equation that counts, with an
-- assignment left before it and none behind it. For every table, accepted or not. Assumes nothing.
use mathlib.Core.Path.{◌≡◌, refl}
use mathlib.Core.Logic.{◌⊎◌, inl, inr, ⊎_elim}
use mathlib.Core.Bool.{Bool, true, false, not}
use mathlib.Core.List.{List, [], ◌∷◌}
use Prim.Native.Nat.{ℕ, zero, suc, ◌+◌, ◌<◌}
use native.Mathlib.Omega.{arith}
use lib.ListN.{length}
use lib.Seq.{take_all}
use borrow.Author.Tests.{not-true}
use Rattle.terms.specs.declared.Row.{Row}
use Rattle.terms.specs.Assignments.{Assignment, done, off, every}
use Rattle.terms.specs.Counting.{Counts, MeetsBefore}
use Rattle.terms.specs.Table.{bits_of, counting, satisfies}
use Rattle.terms.proofs.Assignments.{every_at, every_of, every_false}
use Rattle.terms.proofs.Counting.{counting_rows, counts_or-not}
use Rattle.terms.proofs.Satisfies.{before_at, before_of, satisfies_at}
use Rattle.laws.proofs.Bools.{not_both}
use Rattle.laws.proofs.Least.{least_is, least_found, least-passed}
use Rattle.laws.proofs.Numbers.{below-or_at}
use Rattle.answers.specs.Solve.{valid, unsatisfiable, satisfies_to, unsat_row, ties_to, never_record, answer_record}
use Rattle.answers.specs.Never.{SomeLeft, NoneLeftAt, NeverRow}

-- there is an assignment of n bits
some_pattern : (n : ℕ) → (p : List ℕ) × Assignment n p
some_pattern zero = ([], done)
some_pattern (suc n) = let s = some_pattern n in (0 ∷ s.0, off s.1)

module _ (t : List Row) where
  abbrev none_to : ℕ → Bool
  none_to r = every (bits_of t) (λ p. not (satisfies_to t r p))

  -- up to a row, by meaning
  met_to : (r : ℕ) (p : List ℕ) → satisfies_to t r p ≡ true → MeetsBefore t (suc r) p
  unfolding satisfies_to
  met_to r p h = before_at t p (suc r) h

  met_of : (r : ℕ) (p : List ℕ) → MeetsBefore t (suc r) p → satisfies_to t r p ≡ true
  unfolding satisfies_to
  met_of r p h = before_of t p (suc r) h

  -- a test that says no to what none passes
  none_passes : (b : Bool) → (b ≡ true → ⊥) → not b ≡ true
  none_passes true h = absurd (h refl)
  none_passes false h = refl

  none-to : (r : ℕ) → (SomeLeft t (suc r) → ⊥) → none_to r ≡ true
  none-to r none =
      every_of (bits_of t) (λ p. not (satisfies_to t r p))
      (λ p a. none_passes (satisfies_to t r p) (λ h. none (record { pattern = p; bits = a; meets = met_to r p h })))

  none_left : (r : ℕ) → none_to r ≡ true → SomeLeft t (suc r) → ⊥
  none_left r h some =
      not_both (met_of r some.pattern some.meets)
      (not-true (satisfies_to t r some.pattern) (every_at (bits_of t) (λ p. not (satisfies_to t r p)) h some.pattern some.bits))

  some_to : (r : ℕ) → none_to r ≡ false → SomeLeft t (suc r)
  some_to r h =
      let s = every_false (bits_of t) (λ p. not (satisfies_to t r p)) h in
      record { pattern = s.0; bits = s.1.0; meets = met_to r s.0 (passes (satisfies_to t r s.0) s.1.1) }
    where
      passes : (b : Bool) → not b ≡ false → b ≡ true
      passes true e = refl
      passes false e = absurd (not_both refl e)

  -- fewer rows leave no fewer assignments
  some_fewer : (m n : ℕ) → ((r : ℕ) → r < m → r < n) → SomeLeft t n → SomeLeft t m
  some_fewer m n fewer some = record { pattern = some.pattern; bits = some.bits; meets = λ r l. some.meets r (fewer r l) }

  -- where a row does not count, what is left before it is left behind it
  some_more : (r : ℕ) → (Counts t r → ⊥) → SomeLeft t r → SomeLeft t (suc r)
  some_more r none some =
      record {
        pattern = some.pattern;
        bits = some.bits;
        meets = λ i l c. ⊎_elim (λ m. some.meets i m c) (λ e. absurd (none (rw e at c))) (below-or_at i r l);
      }

  -- what no assignment satisfies loses the last one at some row
  none_at_end : unsatisfiable t ≡ true → none_to (length t) ≡ true
  unfolding unsatisfiable satisfies satisfies_to
  none_at_end u = rw (take_all (suc (length t)) (counting t) (omega (arith, (counting_rows t).as_many))) u

  some_at_first : (r : ℕ) → ((i : ℕ) → i < r → none_to i ≡ false) → SomeLeft t r
  some_at_first zero passed = let s = some_pattern (bits_of t) in record { pattern = s.0; bits = s.1; meets = λ i l c. absurd (omega arith) }
  some_at_first (suc r) passed = some_to r (passed r (omega arith))

  pub none_left_at : unsatisfiable t ≡ true → NoneLeftAt t (unsat_row t)
  unfolding unsat_row
  none_left_at u = go (counts_or-not t (unsat_row t))
    where
      before : SomeLeft t (unsat_row t)
      before = some_at_first (unsat_row t) (λ i l. least-passed none_to 0 (length t) i (omega arith) l)

      behind : SomeLeft t (suc (unsat_row t)) → ⊥
      behind = none_left (unsat_row t) (least_found none_to 0 (length t) (let e : 0 + length t ≡ length t = omega arith in rw e (none_at_end u)))

      go : Counts t (unsat_row t) ⊎ (Counts t (unsat_row t) → ⊥) → NoneLeftAt t (unsat_row t)
      go (inl c) = record { counts = c; some_before = before; none_with = behind }
      go (inr none) = absurd (behind (some_more (unsat_row t) none before))

  -- and where an assignment is lost at a row, that is the row
  module _ (r : ℕ) (at : NoneLeftAt t r) where
    row_is : unsat_row t ≡ r
    unfolding unsat_row
    row_is =
        least_is none_to (length t) 0 r (omega arith) (omega (arith, at.counts.in_table)) (none-to r at.none_with)
        (λ i l. left i l (none_to i) refl)
      where
        left : (i : ℕ) → i < r → (b : Bool) → none_to i ≡ b → b ≡ false
        left i l false e = refl
        left i l true e = absurd (none_left i e (some_fewer (suc i) r (λ j m. omega arith) at.some_before))

    lost : (p : List ℕ) → Assignment (bits_of t) p → satisfies t p ≡ true → ⊥
    lost p a h = at.none_with (record { pattern = p; bits = a; meets = λ i l c. satisfies_at t p h i c })

    none-satisfies : unsatisfiable t ≡ true
    unfolding unsatisfiable
    none-satisfies = every_of (bits_of t) (λ p. not (satisfies t p)) (λ p a. none_passes (satisfies t p) (lost p a))

    not-all : (b : Bool) → valid t ≡ b → b ≡ false
    unfolding valid
    not-all false e = refl
    not-all true e = let some = at.some_before in absurd (lost some.pattern some.bits (every_at (bits_of t) (satisfies t) e some.pattern some.bits))

    pub never_is : answer_record t ≡ never_record (ties_to t r) r
    unfolding answer_record
    never_is = rw (not-all (valid t) refl, none-satisfies, row_is) refl

-- The answer is a never of row r exactly if r is the lowest equation row at which no assignment is left.
pub never-row : (t : List Row) (r : ℕ) → NeverRow t r
unfolding answer_record
never-row t r = record { to = to (valid t) refl (unsatisfiable t) refl; of = never_is t r }
  where
    to : (a : Bool) → valid t ≡ a → (b : Bool) → unsatisfiable t ≡ b → (answer_record t).outcome ≡ 1 → (answer_record t).row ≡ r → NoneLeftAt t r
    to true h b k o e = let z : (answer_record t).outcome ≡ 0 = rw h refl in absurd (omega (arith, o, z))
    to false h false k o e = let z : (answer_record t).outcome ≡ 2 = rw (h, k) refl in absurd (omega (arith, o, z))
    to false h true k o e = let at : unsat_row t ≡ r = rw (h, k) at e in rw at at (none_left_at t k)
