-- Two sources are equal in every satisfying assignment exactly if they are in one class; so the classes are the representatives, and
-- the links are the ties.
use mathlib.Core.Path.{◌≡◌, refl, sym, ap, ◌∙◌}
use mathlib.Core.Logic.{◌⊎◌, inl, inr, ◌≢◌}
use mathlib.Core.Bool.{Bool, true, false, not, ◌||◌, cond}
use mathlib.Core.List.{List, [], ◌∷◌, map}
use Prim.Native.Nat.{ℕ, zero, suc, ◌+◌, ◌≤◌, ◌<◌, min, max}
use native.Mathlib.Omega.{arith}
use lib.Dec.{eqb}
use lib.ListN.{length, get_or, drop, length-map, get_or-eq_default}
use borrow.Author.Tests.{eqb-true, eq-eqb, ne_eqb}
use Rattle.terms.specs.Assignments.{Assignment}
use Rattle.terms.specs.Table.{bit_of}
use Rattle.laws.specs.Lists.{count_up}
use Rattle.terms.proofs.Assignments.{assignment_of, every_at, every_of}
use Rattle.answers.specs.Pairs.{Pair, equals, equal_under, satisfies_pairs, ties}
use Rattle.answers.specs.Representatives.{representative}
use Rattle.answers.specs.inner.Classes.{classes_of, links, merge, relabel, rep, roots, run, Represents}
use Rattle.answers.proofs.Relabelling.{relabel_hit, relabel_miss, hi, lo, hi_root}
use Rattle.laws.proofs.Numbers.{dec_eq}
use Rattle.laws.proofs.Lists.{map_read, map_same}
use Rattle.answers.proofs.Agreement.{relabel_zero, step, base, run_represents}
use Rattle.laws.proofs.Numbers.{lt_or_le}
use Rattle.laws.proofs.Lists.{tail_length, tail_at}
use Rattle.laws.proofs.Least.{least_is}
use Rattle.laws.proofs.Tallies.{implied}

-- the assignment that has 1 in the class r, and in the class of 1
unfoldable pub ones_in : ℕ → ℕ → ℕ
ones_in r v = cond (eqb v 1) 1 (cond (eqb v r) 1 0)

ones_one : (r : ℕ) → ones_in r 1 ≡ 1
unfolding ones_in
ones_one r = refl

ones_self : (r : ℕ) → ones_in r r ≡ 1
unfolding ones_in
ones_self r = go (eqb r 1)
  where
    go : (t : Bool) → cond {A = ℕ} t 1 (cond (eqb r r) 1 0) ≡ 1
    go true = refl
    go false = rw (eq-eqb r r refl)

ones_other : (r v : ℕ) → v ≢ 1 → v ≢ r → ones_in r v ≡ 0
unfolding ones_in
ones_other r v a b = rw (ne_eqb v 1 a, ne_eqb v r b)

ones-le : (r v : ℕ) → ones_in r v ≤ 1
unfolding ones_in
ones-le r v = go (eqb v 1) (eqb v r)
  where
    go : (s t : Bool) → cond s 1 (cond t 1 0) ≤ 1
    go true t = omega arith
    go false true = omega arith
    go false false = omega arith

-- these assignments tell any two classes apart
apart : (x y : ℕ) → ((r : ℕ) → r ≢ 0 → ones_in r x ≡ ones_in r y) → x ≡ y
apart x y h = go (dec_eq x y)
  where
    go : (x ≡ y) ⊎ (x ≢ y) → x ≡ y
    go (inl e) = e
    go (inr e) = one (dec_eq x 1) (dec_eq y 1)
      where
        one : (x ≡ 1) ⊎ (x ≢ 1) → (y ≡ 1) ⊎ (y ≢ 1) → x ≡ y
        one (inl a) (inl b) = cc
        one (inl a) (inr b) = absurd (omega (arith, ones_one 1, ones_other 1 y b b, rw a at (h 1 (omega arith))))
        one (inr a) (inl b) = absurd (omega (arith, ones_one 1, ones_other 1 x a a, rw b at (h 1 (omega arith))))
        one (inr a) (inr b) = zeros (dec_eq x 0)
          where
            zeros : (x ≡ 0) ⊎ (x ≢ 0) → x ≡ y
            zeros (inl z) = absurd (omega (arith, ones_self y, ones_other y x a e, h y (omega arith)))
            zeros (inr z) = absurd (omega (arith, ones_self x, ones_other x y b (omega arith), h x z))

module _ (n : ℕ) (c : List ℕ) (seen : List Pair) (inv : Represents n c seen) (one : rep c 1 ≡ 1) where
  unfoldable pub witness : ℕ → List ℕ
  witness r = map (ones_in r) (drop 2 c)

  ones_zero : (r : ℕ) → r ≢ 0 → ones_in r 0 ≡ 0
  ones_zero r z = ones_other r 0 (omega arith) (omega arith)

  witness_at : (r : ℕ) → r ≢ 0 → (i : ℕ) → bit_of (witness r) i ≡ ones_in r (rep c i)
  unfolding bit_of witness
  witness_at r z zero =
      let e : rep c 0 ≡ 0 = omega (arith, inv.low 0) in
      rw e (sym (ones_zero r z))
  witness_at r z (suc zero) = rw one (sym (ones_one r))
  witness_at r z (suc (suc i)) = map_read (ones_in r) (ones_zero r z) (drop 2 c) i ∙ ap (ones_in r) (tail_at c i)

  pub witness_bits : (r : ℕ) → r ≢ 0 → Assignment n (witness r)
  unfolding witness
  witness_bits r z =
      assignment_of n (witness r) (length-map (drop 2 c) (ones_in r) ∙ tail_length c n inv.len)
      (λ i h. rw (map_read (ones_in r) (ones_zero r z) (drop 2 c) i) (ones-le r (get_or (drop 2 c) i 0)))

  pub witness_satisfies : (r : ℕ) → r ≢ 0 → satisfies_pairs (witness r) seen ≡ true
  witness_satisfies r z = inv.full (witness r) (witness_bits r z) (λ i. witness_at r z i ∙ ap (ones_in r) (sym (inv.root i)) ∙ sym (witness_at r z (rep c i)))

  implies : (a b : Bool) → (a ≡ true → b ≡ true) → not a || b ≡ true
  implies true b h = h refl
  implies false b h = refl

  pub equals_to : (s t : ℕ) → equals n seen s t ≡ true → rep c s ≡ rep c t
  unfolding equal_under
  equals_to s t h = apart (rep c s) (rep c t) (λ r z. sym (witness_at r z s) ∙ same r z ∙ witness_at r z t)
    where
      same : (r : ℕ) → r ≢ 0 → bit_of (witness r) s ≡ bit_of (witness r) t
      same r z = eqb-true (bit_of (witness r) s) (bit_of (witness r) t) (implied (satisfies_pairs (witness r) seen) (eqb (bit_of (witness r) s) (bit_of (witness r) t)) (every_at n (λ p. not (satisfies_pairs p seen) || eqb (bit_of p s) (bit_of p t)) h (witness r) (witness_bits r z)) (witness_satisfies r z))

  pub equals_of : (s t : ℕ) → rep c s ≡ rep c t → equals n seen s t ≡ true
  unfolding equal_under
  equals_of s t e =
      every_of n (λ p. not (satisfies_pairs p seen) || eqb (bit_of p s) (bit_of p t))
      (λ p h. implies (satisfies_pairs p seen) (eqb (bit_of p s) (bit_of p t)) (λ m. eq-eqb (bit_of p s) (bit_of p t) (cc (inv.just p h m s, inv.just p h m t))))

  pub equals-not : (s t : ℕ) → rep c s ≢ rep c t → equals n seen s t ≡ false
  equals-not s t e = go (equals n seen s t) refl
    where
      go : (b : Bool) → equals n seen s t ≡ b → b ≡ false
      go false h = refl
      go true h = absurd (e (equals_to s t h))

  pub equals_is : (s t : ℕ) → equals n seen s t ≡ eqb (rep c s) (rep c t)
  equals_is s t = go (dec_eq (rep c s) (rep c t))
    where
      go : (rep c s ≡ rep c t) ⊎ (rep c s ≢ rep c t) → equals n seen s t ≡ eqb (rep c s) (rep c t)
      go (inl e) = equals_of s t e ∙ sym (eq-eqb (rep c s) (rep c t) e)
      go (inr e) = equals-not s t e ∙ sym (ne_eqb (rep c s) (rep c t) e)

-- the classes are the representatives
pub representative_is : (n : ℕ) (c : List ℕ) (seen : List Pair) → Represents n c seen → rep c 1 ≡ 1 → (s : ℕ) → representative n seen s ≡ rep c s
unfolding representative
representative_is n c seen inv one s =
    least_is (equals n seen s) s 0 (rep c s) (omega arith) (omega (arith, inv.low s)) (equals_of n c seen inv one s (rep c s) (sym (inv.root s)))
    (λ j l. equals-not n c seen inv one s j (λ e. absurd (omega (arith, inv.low j, e))))

-- a conflict stays
merge_one : (c : List ℕ) (q : Pair) → rep c 1 ≤ 1 → rep (merge c q) 1 ≡ 1 → rep c 1 ≡ 1
unfolding merge
merge_one c q l e = go (dec_eq (rep c 1) 0)
  where
    go : (rep c 1 ≡ 0) ⊎ (rep c 1 ≢ 0) → rep c 1 ≡ 1
    go (inl z) =
        let x : ℕ = rep c q.left in
        let y : ℕ = rep c q.right in
        let f : rep (merge c q) 1 ≡ relabel (max x y) (min x y) (rep c 1) = map_read (relabel (max x y) (min x y)) (relabel_zero x y) c 1 in
        let g : rep (merge c q) 1 ≡ 0 = cc (relabel_zero x y) in
        absurd (omega arith)
    go (inr z) = omega arith

run_one : (n : ℕ) (c : List ℕ) (seen qs : List Pair) → Represents n c seen → rep (run c qs) 1 ≡ 1 → rep c 1 ≡ 1
unfolding run
run_one n c seen [] inv e = e
run_one n c seen (q ∷ qs) inv e = merge_one c q (inv.low 1) (run_one n (merge c q) (q ∷ seen) qs (step n c seen inv q) e)

pub ties_are : (n : ℕ) (c : List ℕ) (seen qs : List Pair) → Represents n c seen → rep (run c qs) 1 ≡ 1 → ties n seen qs ≡ links c qs
unfolding ties links run
ties_are n c seen [] inv e = refl
ties_are n c seen (q ∷ qs) inv e =
    rw (equals_is n c seen inv (run_one n c seen (q ∷ qs) inv e) q.left q.right, ties_are n (merge c q) (q ∷ seen) qs (step n c seen inv q) e)

-- one root less for each tie

abbrev Low : ℕ → List ℕ → Type 0
Low k c = (i : ℕ) → get_or c i 0 ≤ k + i

low_next : (k v : ℕ) (c : List ℕ) → Low k (v ∷ c) → Low (suc k) c
low_next k v c h i = omega (arith, h (suc i))

module _ (hi lo : ℕ) (less : lo < hi) where
  -- a place other than hi is a root as it was
  root_same : (k v : ℕ) → v ≤ k → k ≢ hi → eqb (relabel hi lo v) k ≡ eqb v k
  root_same k v l d = go (dec_eq v hi)
    where
      go : (v ≡ hi) ⊎ (v ≢ hi) → eqb (relabel hi lo v) k ≡ eqb v k
      go (inl e) = rw (relabel_hit hi lo v e, ne_eqb v k (omega arith)) (ne_eqb lo k (omega arith))
      go (inr e) = rw (relabel_miss hi lo v e)

  roots-above : (k : ℕ) (c : List ℕ) → Low k c → hi < k → roots k (map (relabel hi lo) c) ≡ roots k c
  unfolding roots
  roots-above k [] h l = refl
  roots-above k (v ∷ c) h l = rw (root_same k v (omega (arith, h 0)) (omega arith), roots-above (suc k) c (low_next k v c h) (omega arith))

  roots_hit : (k j : ℕ) (c : List ℕ) → Low k c → j < length c → get_or c j 0 ≡ hi → hi ≡ k + j → roots k c ≡ suc (roots k (map (relabel hi lo) c))
  unfolding roots
  roots_hit k j [] h l e f = absurd (omega arith)
  roots_hit k zero (v ∷ c) h l e f =
      rw (relabel_hit hi lo v e, ne_eqb lo k (omega arith), eq-eqb v k (omega arith), roots-above (suc k) c (low_next k v c h) (omega arith)) (omega arith)
  roots_hit k (suc j) (v ∷ c) h l e f =
      rw (root_same k v (omega (arith, h 0)) (omega arith), roots_hit (suc k) j c (low_next k v c h) (omega arith) e (omega arith)) (omega arith)

pub relabel_same : (h v : ℕ) → relabel h h v ≡ v
relabel_same h v = go (dec_eq v h)
  where
    go : (v ≡ h) ⊎ (v ≢ h) → relabel h h v ≡ v
    go (inl e) = relabel_hit h h v e ∙ sym e
    go (inr e) = relabel_miss h h v e

pub merge-roots : (n : ℕ) (c : List ℕ) (seen : List Pair) → Represents n c seen → (q : Pair)
    → roots 0 c ≡ cond (eqb (rep c q.left) (rep c q.right)) 0 1 + roots 0 (merge c q)
unfolding merge hi
merge-roots n c seen inv q = go (dec_eq x y)
  where
    x : ℕ
    x = rep c q.left

    y : ℕ
    y = rep c q.right

    top : rep c (max x y) ≡ max x y
    top = hi_root (rep c) inv.low inv.root q.left q.right

    within : (max x y < length c) ⊎ (length c ≤ max x y) → x ≢ y → max x y < length c
    within (inl l) d = l
    within (inr l) d = absurd (omega (arith, top, get_or-eq_default c 0 {n = max x y} l))

    go : (x ≡ y) ⊎ (x ≢ y) → roots 0 c ≡ cond (eqb x y) 0 1 + roots 0 (map (relabel (max x y) (min x y)) c)
    go (inl e) =
        let m : max x y ≡ min x y = omega arith in
        rw (eq-eqb x y e, m, map_same (relabel (min x y) (min x y)) (relabel_same (min x y)) c) (omega arith)
    go (inr e) =
        let h = roots_hit (max x y) (min x y) (omega arith) 0 (max x y) c (λ i. omega (arith, inv.low i)) (within (lt_or_le (max x y) (length c)) e) top (omega arith) in
        rw (ne_eqb x y e) (omega arith)

pub run-roots : (n : ℕ) (c : List ℕ) (seen qs : List Pair) → Represents n c seen → roots 0 (run c qs) + links c qs ≡ roots 0 c
unfolding run links
run-roots n c seen [] inv = omega arith
run-roots n c seen (q ∷ qs) inv = omega (arith, run-roots n (merge c q) (q ∷ seen) qs (step n c seen inv q), merge-roots n c seen inv q)

start_roots : (k m : ℕ) → roots k (count_up k m) ≡ m
unfolding roots count_up
start_roots k zero = refl
start_roots k (suc m) = rw (eq-eqb k k refl, start_roots (suc k) m) (omega arith)

-- the roots that are no fixed bit
roots_tail : (c : List ℕ) → rep c 0 ≡ 0 → rep c 1 ≡ 1 → roots 0 c ≡ 2 + roots 2 (drop 2 c)
unfolding roots
roots_tail [] a b = absurd (omega arith)
roots_tail (u ∷ []) a b = absurd (omega arith)
roots_tail (u ∷ v ∷ c) a b = rw (a, b) (omega arith)

pub free_ties : (n : ℕ) (qs : List Pair) → rep (classes_of n qs) 1 ≡ 1 → roots 2 (drop 2 (classes_of n qs)) + ties n [] qs ≡ n
unfolding classes_of
free_ties n qs e =
    let c : List ℕ = count_up 0 (suc (suc n)) in
    let inv = run_represents n c [] qs (base n) in
    omega (arith, ties_are n c [] qs (base n) e, run-roots n c [] qs (base n), start_roots 0 (suc (suc n)), inv.low 0, roots_tail (run c qs) (omega (arith, inv.low 0)) e)
