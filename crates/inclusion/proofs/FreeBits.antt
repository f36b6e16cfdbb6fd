-- A proper part has fewer free bits (document 02, (xii)): of two tables that some pattern meets each has 2 to the power of its free bits of them.
-- Assumes nothing.
use mathlib.Core.Path.{◌≡◌, refl, sym, ◌∙◌, subst}
use mathlib.Core.Bool.{Bool, true, false, cond}
use mathlib.Core.Logic.{◌⊎◌, inl, inr, ◌≢◌}
use mathlib.Core.List.{List, [], ◌∷◌}
use Prim.Native.Nat.{ℕ, zero, suc, ◌^◌, ◌≤◌, ◌<◌}
use native.Mathlib.Omega.{arith}
use lib.Pow.{pow_mono}
use Rattle.laws.proofs.Numbers.{lt_or_le}
use Rattle.terms.specs.Assignments.{Assignment, done, off, on, count}
use Rattle.terms.specs.Faults.{Accepted, first_fault}
use Rattle.terms.specs.Table.{rows_of, bits_of, satisfies}
use Rattle.answers.specs.Solve.{valid, unsatisfiable, answer_record}
use Rattle.answers.proofs.Demands.{demand_3}
use Rattle.inclusion.specs.Call.{compare_record}
use Rattle.inclusion.specs.Comparing.{Comparable}
use Rattle.inclusion.proofs.Stops.{as_many}
use Rattle.inclusion.proofs.Theorems.{compared}

-- a test that another passes wherever it does holds at most as often, and less often where one fails
count-part : (n : ℕ) (f g : List ℕ → Bool) → ((p : List ℕ) → Assignment n p → f p ≡ true → g p ≡ true) → count n f ≤ count n g
unfolding count
count-part zero f g h = go (f []) refl
  where
    go : (b : Bool) → f [] ≡ b → cond {A = ℕ} b 1 0 ≤ cond (g []) 1 0
    go true e = rw (h [] done e) (omega arith)
    go false e = omega arith
count-part (suc n) f g h =
    omega (
      arith,
      count-part n (λ p. f (0 ∷ p)) (λ p. g (0 ∷ p)) (λ p a. h (0 ∷ p) (off a)),
      count-part n (λ p. f (1 ∷ p)) (λ p. g (1 ∷ p)) (λ p a. h (1 ∷ p) (on a)),
    )

count_fewer : (n : ℕ) (f g : List ℕ → Bool) → ((p : List ℕ) → Assignment n p → f p ≡ true → g p ≡ true)
    → (p : List ℕ) → Assignment n p → f p ≡ false → g p ≡ true → count n f < count n g
unfolding count
count_fewer n f g h p done x y = rw (x, y) (omega arith)
count_fewer n f g h p (off {n = m} {p = q} a) x y =
    omega (
      arith,
      count_fewer m (λ r. f (0 ∷ r)) (λ r. g (0 ∷ r)) (λ r b. h (0 ∷ r) (off b)) q a x y,
      count-part m (λ r. f (1 ∷ r)) (λ r. g (1 ∷ r)) (λ r b. h (1 ∷ r) (on b)),
    )
count_fewer n f g h p (on {n = m} {p = q} a) x y =
    omega (
      arith,
      count-part m (λ r. f (0 ∷ r)) (λ r. g (0 ∷ r)) (λ r b. h (0 ∷ r) (off b)),
      count_fewer m (λ r. f (1 ∷ r)) (λ r. g (1 ∷ r)) (λ r b. h (1 ∷ r) (on b)) q a x y,
    )

-- the patterns of a table that is no never
counted : (table : List ℕ) → first_fault table ≡ Accepted → (answer_record (rows_of table)).outcome ≢ 1
    → count (bits_of (rows_of table)) (satisfies (rows_of table)) ≡ 2 ^ (answer_record (rows_of table)).free
unfolding answer_record
counted table accepted n = go (valid (rows_of table)) refl (unsatisfiable (rows_of table)) refl
  where
    go : (a : Bool) → valid (rows_of table) ≡ a → (b : Bool) → unsatisfiable (rows_of table) ≡ b
        → count (bits_of (rows_of table)) (satisfies (rows_of table)) ≡ 2 ^ (answer_record (rows_of table)).free
    go true h b k = (demand_3 table accepted).always_to (rw h refl) ∙ rw h refl
    go false h true k = absurd (n (rw (h, k) refl))
    go false h false k = (demand_3 table accepted).solved_count (rw (h, k) refl)

-- (h)
pub fewer_free : (first second : List ℕ) (room : ℕ) → Comparable first second room → (answer_record (rows_of first)).outcome ≢ 1 → (answer_record (rows_of second)).outcome ≢ 1
    → (compare_record first second room).outcome ≡ 1 → (answer_record (rows_of first)).free < (answer_record (rows_of second)).free
fewer_free first second room c n m e = go (lt_or_le (answer_record (rows_of first)).free (answer_record (rows_of second)).free)
  where
    fewer : count (bits_of (rows_of first)) (satisfies (rows_of first)) < count (bits_of (rows_of second)) (satisfies (rows_of second))
    fewer =
        let k = (compared first second room c).stricter.to e in
        let a : Assignment (bits_of (rows_of first)) k.1.pattern = subst (λ (n : ℕ). Assignment n k.1.pattern) (sym (as_many first second room c)) k.1.bits in
        let l = count_fewer (bits_of (rows_of first)) (satisfies (rows_of first)) (satisfies (rows_of second)) k.0 k.1.pattern a k.1.fails k.1.meets in
        subst (λ (n : ℕ). count (bits_of (rows_of first)) (satisfies (rows_of first)) < count n (satisfies (rows_of second))) (as_many first second room c) l

    go : ((answer_record (rows_of first)).free < (answer_record (rows_of second)).free) ⊎ ((answer_record (rows_of second)).free ≤ (answer_record (rows_of first)).free)
        → (answer_record (rows_of first)).free < (answer_record (rows_of second)).free
    go (inl l) = l
    go (inr l) = absurd (omega (arith, fewer, counted first c.first_accepted n, counted second c.second_accepted m, pow_mono l))
