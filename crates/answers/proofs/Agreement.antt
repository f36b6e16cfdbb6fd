-- Agreement: an assignment satisfies the pairs seen exactly if each source has the bit of its representative.
use mathlib.Core.Path.{◌≡◌, refl, sym, ap, ◌∙◌}
use mathlib.Core.Logic.{◌⊎◌, inl, inr, ◌≢◌}
use mathlib.Core.Bool.{true, ◌&&◌, and-true}
use mathlib.Core.List.{List, [], ◌∷◌, reverse, reverse_aux}
use Prim.Native.Nat.{ℕ, zero, suc, ◌≤◌, ◌<◌, min, max}
use native.Mathlib.Omega.{arith}
use lib.Dec.{eqb}
use lib.ListN.{length, get_or, length-map, get_or-eq_default}
use borrow.Author.Tests.{eqb-true, eq-eqb}
use Rattle.terms.specs.Assignments.{Assignment}
use Rattle.terms.specs.Table.{bit_of}
use Rattle.laws.specs.Lists.{count_up}
use Rattle.terms.proofs.Assignments.{assignment_length}
use Rattle.answers.specs.Pairs.{Pair, satisfies_pairs}
use Rattle.answers.specs.inner.Classes.{classes_of, merge, relabel, rep, run, Represents}
use Rattle.laws.proofs.Bools.{and_first, and_second, and_move}
use Rattle.answers.proofs.Relabelling.{relabel_hit, relabel_miss, hi, lo, next, next_low, next_root, next_just, next_pair, next_old}
use Rattle.laws.proofs.Numbers.{dec_eq, lt_or_le}
use Rattle.laws.proofs.Lists.{map_read}
use Rattle.laws.proofs.CountUp.{count_at, count-up, count_past}

pub first_holds : (p : List ℕ) (q : Pair) (qs : List Pair) → satisfies_pairs p (q ∷ qs) ≡ true → bit_of p q.left ≡ bit_of p q.right
unfolding satisfies_pairs
first_holds p q qs t = eqb-true _ _ (and_first (eqb (bit_of p q.left) (bit_of p q.right)) (satisfies_pairs p qs) t)

pub rest_holds : (p : List ℕ) (q : Pair) (qs : List Pair) → satisfies_pairs p (q ∷ qs) ≡ true → satisfies_pairs p qs ≡ true
unfolding satisfies_pairs
rest_holds p q qs t = and_second (eqb (bit_of p q.left) (bit_of p q.right)) (satisfies_pairs p qs) t

pub both_hold : (p : List ℕ) (q : Pair) (qs : List Pair) → bit_of p q.left ≡ bit_of p q.right → satisfies_pairs p qs ≡ true → satisfies_pairs p (q ∷ qs) ≡ true
unfolding satisfies_pairs
both_hold p q qs e t = rw (eq-eqb _ _ e) t

pub relabel_zero : (x y : ℕ) → relabel (max x y) (min x y) 0 ≡ 0
relabel_zero x y = go (dec_eq 0 (max x y))
  where
    go : (0 ≡ max x y) ⊎ (0 ≢ max x y) → relabel (max x y) (min x y) 0 ≡ 0
    go (inl e) = relabel_hit (max x y) (min x y) 0 e ∙ omega arith
    go (inr e) = relabel_miss (max x y) (min x y) 0 e

module _ (n : ℕ) (c : List ℕ) (seen : List Pair) (inv : Represents n c seen) (q : Pair) where
  merge_at : (i : ℕ) → rep (merge c q) i ≡ next (rep c) inv.low inv.root q.left q.right i
  unfolding merge next hi lo
  merge_at i = map_read _ (relabel_zero (rep c q.left) (rep c q.right)) c i

  merge_len : length (merge c q) ≡ suc (suc n)
  unfolding merge
  merge_len = length-map c _ ∙ inv.len

  pub step : Represents n (merge c q) (q ∷ seen)
  step = record {
    len = merge_len;
    low = λ i. rw (merge_at i) (next_low (rep c) inv.low inv.root q.left q.right i);
    root = λ i. simp merge_at (next_root (rep c) inv.low inv.root q.left q.right i);
    just = λ p h m i.
        simp merge_at
        (next_just (rep c) inv.low inv.root q.left q.right (bit_of p) (inv.just p h (rest_holds p q seen m)) (first_holds p q seen m) i);
    full = λ p h m.
        let k : (i : ℕ) → bit_of p i ≡ bit_of p (next (rep c) inv.low inv.root q.left q.right i) = λ i. m i ∙ ap (bit_of p) (merge_at i) in
        let a = next_pair (rep c) inv.low inv.root q.left q.right (bit_of p) k in
        let b = inv.full p h (next_old (rep c) inv.low inv.root q.left q.right (bit_of p) k) in
        both_hold p q seen a b;
  }

-- the bits of places and of constants
pub place_bit : (p : List ℕ) (i : ℕ) → bit_of p (suc (suc i)) ≡ get_or p i 0
unfolding bit_of
place_bit p i = refl

pub fixed-bit : (p : List ℕ) (b : ℕ) → b ≤ 1 → bit_of p b ≡ b
unfolding bit_of
fixed-bit p zero l = refl
fixed-bit p (suc zero) l = refl
fixed-bit p (suc (suc b)) l = absurd (omega arith)

-- where the constants are apart, each is its own class
pub fixed_class : (n : ℕ) (c : List ℕ) (seen : List Pair) → Represents n c seen → rep c 1 ≡ 1 → (b : ℕ) → b ≤ 1 → rep c b ≡ b
fixed_class n c seen inv one zero l = omega (arith, inv.low 0)
fixed_class n c seen inv one (suc zero) l = one
fixed_class n c seen inv one (suc (suc b)) l = absurd (omega arith)

pub bit_past : {n : ℕ} {p : List ℕ} → Assignment n p → (i : ℕ) → suc (suc n) ≤ i → bit_of p i ≡ 0
unfolding bit_of
bit_past {n} {p} h i l = get_or-eq_default (0 ∷ 1 ∷ p) 0 {n = i} (omega (arith, assignment_length h))

module _ (n : ℕ) where
  base_low : (i : ℕ) → rep (count_up 0 (suc (suc n))) i ≤ i
  base_low i = go (lt_or_le i (suc (suc n)))
    where
      go : (i < suc (suc n)) ⊎ (suc (suc n) ≤ i) → rep (count_up 0 (suc (suc n))) i ≤ i
      go (inl h) = omega (arith, count_at 0 (suc (suc n)) i h)
      go (inr h) = omega (arith, count_past 0 (suc (suc n)) i h)

  base_root : (i : ℕ) → rep (count_up 0 (suc (suc n))) (rep (count_up 0 (suc (suc n))) i) ≡ rep (count_up 0 (suc (suc n))) i
  base_root i = go (lt_or_le i (suc (suc n)))
    where
      go : (i < suc (suc n)) ⊎ (suc (suc n) ≤ i) → rep (count_up 0 (suc (suc n))) (rep (count_up 0 (suc (suc n))) i) ≡ rep (count_up 0 (suc (suc n))) i
      go (inl h) = let e = count_at 0 (suc (suc n)) i h in ap (rep (count_up 0 (suc (suc n)))) (e ∙ omega arith)
      go (inr h) = rw (count_past 0 (suc (suc n)) i h) (count_at 0 (suc (suc n)) 0 (omega arith))

  base_just : (p : List ℕ) → Assignment n p → (i : ℕ) → bit_of p i ≡ bit_of p (rep (count_up 0 (suc (suc n))) i)
  unfolding bit_of
  base_just p h i = go (lt_or_le i (suc (suc n)))
    where
      go : (i < suc (suc n)) ⊎ (suc (suc n) ≤ i) → bit_of p i ≡ bit_of p (rep (count_up 0 (suc (suc n))) i)
      go (inl l) = let e : i ≡ rep (count_up 0 (suc (suc n))) i = omega (arith, count_at 0 (suc (suc n)) i l) in ap (bit_of p) e
      go (inr l) = bit_past h i l ∙ ap (bit_of p) (sym (count_past 0 (suc (suc n)) i l))

  pub base : Represents n (count_up 0 (suc (suc n))) []
  unfolding satisfies_pairs
  base = record {
    len = count-up 0 (suc (suc n));
    low = base_low;
    root = base_root;
    just = λ p h m i. base_just p h i;
    full = λ p h m. refl;
  }

pub run_represents : (n : ℕ) (c : List ℕ) (seen qs : List Pair) → Represents n c seen → Represents n (run c qs) (reverse_aux qs seen)
unfolding run
run_represents n c seen [] inv = inv
run_represents n c seen (q ∷ qs) inv = run_represents n (merge c q) (q ∷ seen) qs (step n c seen inv q)

pub classes_represent : (n : ℕ) (qs : List Pair) → Represents n (classes_of n qs) (reverse qs)
unfolding classes_of
classes_represent n qs = run_represents n (count_up 0 (suc (suc n))) [] qs (base n)

pub satisfies-turned : (p : List ℕ) (qs seen : List Pair) → satisfies_pairs p (reverse_aux qs seen) ≡ satisfies_pairs p qs && satisfies_pairs p seen
unfolding satisfies_pairs
satisfies-turned p [] seen = refl
satisfies-turned p (q ∷ qs) seen = rw (satisfies-turned p qs (q ∷ seen)) (and_move (satisfies_pairs p qs) (eqb (bit_of p q.left) (bit_of p q.right)) (satisfies_pairs p seen))

pub satisfies-reverse : (p : List ℕ) (qs : List Pair) → satisfies_pairs p (reverse qs) ≡ satisfies_pairs p qs
unfolding satisfies_pairs
satisfies-reverse p qs = satisfies-turned p qs [] ∙ and-true (satisfies_pairs p qs)
