-- The answer's definitions where equal bits are those of one class: they come to the classes' numbers.
use mathlib.Core.Path.{◌≡◌, refl, sym, ap, ap₂, ◌∙◌}
use mathlib.Core.Logic.{◌⊎◌, inl, inr}
use mathlib.Core.Bool.{Bool, true, false, not, ◌&&◌, ◌||◌, and-false}
use mathlib.Core.List.{List}
use Prim.Native.Nat.{ℕ, zero, suc, ◌+◌, ◌-◌, ◌≤◌, ◌<◌, pred}
use native.Mathlib.Omega.{arith}
use lib.Dec.{eqb, leb}
use borrow.Author.Tests.{eqb-true, eq-eqb, ne_eqb, le-leb, lt-leb, not-true}
use Rattle.answers.specs.Pairs.{Pair}
use Rattle.answers.specs.inner.Classes.{rep, in_class, Represents}
use Rattle.laws.specs.Lists.{below}
use Rattle.answers.specs.Answer.{begins, fixed_to, unfixed, contiguous, fixed_alike, goes_on, lowest, appears}
use Rattle.laws.proofs.Bools.{and_first, same_test}
use Rattle.laws.proofs.Least.{least_at}
use Rattle.laws.proofs.Numbers.{lt_or_le}
use Rattle.answers.proofs.Agreement.{fixed_class}
use Rattle.answers.proofs.Slots.{loose, glued, heads}
use Rattle.answers.proofs.Gluing.{glued_e}

module _ (n : ℕ) (c : List ℕ) (seen : List Pair) (inv : Represents n c seen) (one : rep c 1 ≡ 1) (ws : List ℕ) where
  abbrev C : ℕ → ℕ
  C i = rep c (suc (suc i))

  pub fixed_is : (i b : ℕ) → b ≤ 1 → fixed_to (in_class c) i b ≡ eqb (C i) b
  unfolding in_class
  fixed_is i b l = ap (eqb (C i)) (fixed_class n c seen inv one b l)

  pub unfixed_is : (i : ℕ) → unfixed (in_class c) i ≡ loose C i
  unfixed_is i =
      ap₂ (λ (a b : Bool). not a && not b) (fixed_is i 0 (omega arith)) (fixed_is i 1 (omega arith)) ∙ go (C i)
    where
      go : (x : ℕ) → not (eqb x 0) && not (eqb x 1) ≡ leb 2 x
      go zero = refl
      go (suc zero) = refl
      go (suc (suc x)) = rw (ne_eqb (suc (suc x)) 0 (omega arith), ne_eqb (suc (suc x)) 1 (omega arith), le-leb 2 (suc (suc x)) (omega arith))

  pub contiguous_is : (i : ℕ) → contiguous n ws (in_class c) i ≡ glued n (begins ws) C i
  unfolding contiguous glued in_class
  contiguous_is i =
      ap₂ (λ (a b : Bool). a && b && not (begins ws (suc i)) && below n back && below n on) (unfixed_is i) (unfixed_is (suc i))
    where
      back : ℕ → Bool
      back k = not (eqb (C k) (C (suc i))) || (not (begins ws k) && eqb (C (pred k)) (C i))

      on : ℕ → Bool
      on k = not (eqb (C k) (C i)) || (not (begins ws (suc k)) && eqb (C (suc k)) (C (suc i)))

  -- where a row goes on
  pub goes_open : (i : ℕ) → goes_on n ws (in_class c) (suc i) ≡ true → begins ws (suc i) ≡ false
  unfolding goes_on
  goes_open i h = not-true (begins ws (suc i)) (and_first (not (begins ws (suc i))) (fixed_alike (in_class c) i || contiguous n ws (in_class c) i) h)

  pub goes_loose : (i : ℕ) → 2 ≤ C (suc i) → goes_on n ws (in_class c) (suc i) ≡ glued n (begins ws) C i
  unfolding goes_on fixed_alike
  goes_loose i l =
      rw (fixed_is (suc i) 0 (omega arith), fixed_is (suc i) 1 (omega arith), ne_eqb (C (suc i)) 0 (omega arith), ne_eqb (C (suc i)) 1 (omega arith), and-false (fixed_to (in_class c) i 0), and-false (fixed_to (in_class c) i 1), contiguous_is i)
      (go (begins ws (suc i)) (glued n (begins ws) C i) (λ (h : glued n (begins ws) C i ≡ true). (glued_e n (begins ws) C i h).open'))
    where
      go : (b g : Bool) → (g ≡ true → b ≡ false) → not b && g ≡ g
      go false g h = refl
      go true false h = refl
      go true true h = sym (h refl)

  pub goes_fixed : (i : ℕ) → C (suc i) < 2 → goes_on n ws (in_class c) (suc i) ≡ not (begins ws (suc i)) && eqb (C i) (C (suc i))
  unfolding goes_on fixed_alike
  goes_fixed i l =
      rw (fixed_is i 0 (omega arith), fixed_is i 1 (omega arith), fixed_is (suc i) 0 (omega arith), fixed_is (suc i) 1 (omega arith), contiguous_is i, not_glued (glued n (begins ws) C i) refl)
      (ap (λ (b : Bool). not (begins ws (suc i)) && b) (go (C i) (C (suc i)) l))
    where
      not_glued : (b : Bool) → glued n (begins ws) C i ≡ b → b ≡ false
      not_glued false e = refl
      not_glued true e = absurd (omega (arith, (glued_e n (begins ws) C i e).there))

      go : (x y : ℕ) → y < 2 → ((eqb x 0 && eqb y 0) || (eqb x 1 && eqb y 1)) || false ≡ eqb x y
      go zero zero k = refl
      go zero (suc zero) k = refl
      go zero (suc (suc y)) k = absurd (omega arith)
      go (suc zero) zero k = refl
      go (suc zero) (suc zero) k = refl
      go (suc zero) (suc (suc y)) k = absurd (omega arith)
      go (suc (suc x)) y k = rw (ne_eqb (suc (suc x)) 0 (omega arith), ne_eqb (suc (suc x)) 1 (omega arith), ne_eqb (suc (suc x)) y (omega arith))

  -- the lowest tied place
  pub lowest_is : (i : ℕ) → 2 ≤ C i → lowest (in_class c) i ≡ C i - 2
  unfolding lowest in_class
  lowest_is i l =
      least_at f 0 i (C i - 2) (omega (arith, inv.low (suc (suc i)))) (λ q. there) (λ m a b. ne_eqb (C i) (C m) (omega (arith, inv.low (suc (suc m))))) ∙ omega arith
    where
      f : ℕ → Bool
      f k = eqb (C i) (C k)

      there : f (0 + (C i - 2)) ≡ true
      there =
          let s : suc (suc (C i - 2)) ≡ C i = omega arith in
          ap f (omega arith) ∙ eq-eqb (C i) (C (C i - 2)) (sym (ap (rep c) s ∙ inv.root (suc (suc i))))

  pub heads_are : (i : ℕ) → 2 ≤ C i → not (goes_on n ws (in_class c) i) ≡ heads n (begins ws) C i
  unfolding heads goes_on
  heads_are zero l = sym (le-leb 2 (C 0) l)
  heads_are (suc i) l = ap not (goes_loose i l) ∙ rw (le-leb 2 (C (suc i)) l)

  heads_need : (i : ℕ) → C i < 2 → heads n (begins ws) C i ≡ false
  unfolding heads
  heads_need zero l = lt-leb 2 (C 0) l
  heads_need (suc i) l = rw (lt-leb 2 (C (suc i)) l)

  pub appears_is : (i : ℕ) → appears n ws (in_class c) i ≡ eqb (C i) (suc (suc i)) && heads n (begins ws) C i
  unfolding appears
  appears_is i = go (lt_or_le (C i) 2)
    where
      shift : (x y : ℕ) → 2 ≤ x → eqb (x - 2) y ≡ eqb x (suc (suc y))
      shift x y l = same_test (eqb (x - 2) y) (eqb x (suc (suc y))) (λ h. eq-eqb x (suc (suc y)) (omega (arith, eqb-true (x - 2) y h))) (λ h. eq-eqb (x - 2) y (omega (arith, eqb-true x (suc (suc y)) h)))

      go : (C i < 2) ⊎ (2 ≤ C i) → eqb (lowest (in_class c) i) i && (unfixed (in_class c) i && not (goes_on n ws (in_class c) i)) ≡ eqb (C i) (suc (suc i)) && heads n (begins ws) C i
      go (inl l) = rw (unfixed_is i, lt-leb 2 (C i) l, heads_need i l, and-false (eqb (lowest (in_class c) i) i), and-false (eqb (C i) (suc (suc i))))
      go (inr l) = rw (lowest_is i l, unfixed_is i, le-leb 2 (C i) l) (ap₂ ◌&&◌ (shift (C i) i l) (heads_are i l))
