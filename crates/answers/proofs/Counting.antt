-- How many assignments agree with the classes: two for each place that represents itself.
use mathlib.Core.Path.{◌≡◌, refl, sym, ap, ◌∙◌}
use mathlib.Core.Logic.{◌⊎◌, inl, inr, ◌≢◌}
use mathlib.Core.Bool.{Bool, true, false, ◌&&◌}
use mathlib.Core.List.{List, [], ◌∷◌, ◌++◌, reverse}
use Prim.Native.Nat.{ℕ, zero, suc, ◌+◌, ◌^◌, ◌≤◌, ◌<◌}
use native.Mathlib.Omega.{arith}
use native.Mathlib.Nat.{add_comm, zero-add, add-zero}
use native.Mathlib.Numerals.{add-one}
use lib.Dec.{eqb}
use lib.ListN.{length, get_or, drop, get_or-append, get_or-eq_default}
use lib.Seq.{append_snoc, get_or-append_seam, take-length}
use borrow.Author.Tests.{eqb-true, eq-eqb, ne_eqb}
use Rattle.terms.specs.Assignments.{Assignment, count}
use Rattle.terms.specs.Table.{bit_of}
use Rattle.terms.proofs.Assignments.{assignment_length, count_ext, count_none_of}
use Rattle.answers.specs.Pairs.{Pair, satisfies_pairs}
use Rattle.answers.specs.inner.Classes.{classes_of, rep, roots, Represents}
use Rattle.laws.proofs.Bools.{and_first, and_second, and_both, same_test}
use Rattle.laws.proofs.Numbers.{dec_eq, two}
use Rattle.answers.proofs.Agreement.{bit_past, classes_represent, satisfies-reverse}
use Rattle.laws.proofs.Numbers.{lt_or_le}
use Rattle.laws.proofs.Lists.{snoc_length, tail_length, tail_at}

count_none : (n : ℕ) → count n (λ p. false) ≡ 0
count_none n = count_none_of n (λ p. false) (λ p h. refl)

-- the bits of p agree with the classes c, w standing before p
unfoldable pub kept : List ℕ → List ℕ → List ℕ → Bool
kept w [] p = true
kept w (v ∷ c) [] = true
kept w (v ∷ c) (b ∷ p) = eqb b (get_or (w ++ b ∷ []) v 0) && kept (w ++ b ∷ []) c p

abbrev Low : ℕ → List ℕ → Type 0
Low k c = (i : ℕ) → get_or c i 0 ≤ k + i

abbrev Bits : List ℕ → Type 0
Bits w = (i : ℕ) → get_or w i 0 ≤ 1

low_tail : (w : List ℕ) (b v : ℕ) (c : List ℕ) → Low (length w) (v ∷ c) → Low (length (w ++ b ∷ [])) c
low_tail w b v c h i = omega (arith, h (suc i), snoc_length w b)

snoc_bits : (w : List ℕ) (b : ℕ) → Bits w → b ≤ 1 → Bits (w ++ b ∷ [])
snoc_bits [] b h l zero = l
snoc_bits [] b h l (suc i) = omega arith
snoc_bits (x ∷ w) b h l zero = h 0
snoc_bits (x ∷ w) b h l (suc i) = snoc_bits w b (λ j. h (suc j)) l i

pub count_kept : (c w : List ℕ) → Low (length w) c → Bits w → count (length c) (kept w c) ≡ 2 ^ roots (length w) c
unfolding count kept roots
count_kept [] w h g = refl
count_kept (v ∷ c) w h g =
    go (count_kept c (w ++ 0 ∷ []) (low_tail w 0 v c h) (snoc_bits w 0 g (omega arith)))
    (count_kept c (w ++ 1 ∷ []) (low_tail w 1 v c h) (snoc_bits w 1 g (omega arith)))
    (dec_eq v (length w))
  where
    go : count (length c) (kept (w ++ 0 ∷ []) c) ≡ 2 ^ roots (length (w ++ 0 ∷ [])) c
        → count (length c) (kept (w ++ 1 ∷ []) c) ≡ 2 ^ roots (length (w ++ 1 ∷ [])) c
        → (v ≡ length w) ⊎ (v ≢ length w) → count (suc (length c)) (kept w (v ∷ c)) ≡ 2 ^ roots (length w) (v ∷ c)
    go a b (inl e) =
        let a1 : count (length c) (kept (w ++ 0 ∷ []) c) ≡ 2 ^ roots (suc (length w)) c = rw (← snoc_length w 0) a in
        let b1 : count (length c) (kept (w ++ 1 ∷ []) c) ≡ 2 ^ roots (suc (length w)) c = rw (← snoc_length w 1) b in
        rw (e, get_or-append_seam, get_or-append_seam, eq-eqb (length w) (length w) refl, add_comm 1, add-one) (omega arith)
    go a b (inr e) = pick (get_or w v 0) refl (g v)
      where
        l1 : v < length w
        l1 = omega (arith, h 0)

        a1 : count (length c) (kept (w ++ 0 ∷ []) c) ≡ 2 ^ roots (suc (length w)) c
        a1 = simp snoc_length at a

        b1 : count (length c) (kept (w ++ 1 ∷ []) c) ≡ 2 ^ roots (suc (length w)) c
        b1 = simp snoc_length at b

        pick : (u : ℕ) → get_or w v 0 ≡ u → u ≤ 1 → count (suc (length c)) (kept w (v ∷ c)) ≡ 2 ^ roots (length w) (v ∷ c)
        pick zero f l = rw (get_or-append w (0 ∷ []) 0 v l1, get_or-append w (1 ∷ []) 0 v l1, f, ne_eqb v (length w) e) (rw (count_none (length c), zero-add (roots (suc (length w)) c)) (omega (arith, a1, b1)))
        pick (suc zero) f l = rw (get_or-append w (0 ∷ []) 0 v l1, get_or-append w (1 ∷ []) 0 v l1, f, ne_eqb v (length w) e) (rw (count_none (length c), zero-add (roots (suc (length w)) c)) (omega (arith, a1, b1)))
        pick (suc (suc u)) f l = absurd (omega arith)

-- a bit of p moves over to w
shift : (w : List ℕ) (b : ℕ) (p : List ℕ) (i : ℕ) → get_or (w ++ b ∷ [] ++ p) (length (w ++ b ∷ []) + i) 0 ≡ get_or (w ++ b ∷ p) (length w + suc i) 0
shift w b p i =
    let e : length (w ++ b ∷ []) + i ≡ length w + suc i = omega (arith, snoc_length w b) in
    rw (e, append_snoc)

seam : (w : List ℕ) (b : ℕ) (p : List ℕ) (v : ℕ) → v ≤ length w → get_or (w ++ b ∷ p) v 0 ≡ get_or (w ++ b ∷ []) v 0
seam w b p v h = rw (← append_snoc w b p) (get_or-append (w ++ b ∷ []) p 0 v (omega (arith, snoc_length w b)))

head_at : (w : List ℕ) (b : ℕ) (p : List ℕ) → get_or (w ++ b ∷ p) (length w + 0) 0 ≡ b
head_at w b p = rw add-zero (get_or-append_seam w b p 0)

-- what `kept` says, place by place
pub kept_at : (c w p : List ℕ) → Low (length w) c → length p ≡ length c → kept w c p ≡ true
    → (i : ℕ) → i < length c → get_or (w ++ p) (length w + i) 0 ≡ get_or (w ++ p) (get_or c i 0) 0
unfolding kept
kept_at [] w p h l t i k = absurd (omega arith)
kept_at (v ∷ c) w [] h l t i k = absurd (omega arith)
kept_at (v ∷ c) w (b ∷ p) h l t zero k =
    let e = eqb-true b (get_or (w ++ b ∷ []) v 0) (and_first (eqb b (get_or (w ++ b ∷ []) v 0)) (kept (w ++ b ∷ []) c p) t) in
    cc (head_at w b p, seam w b p v (omega (arith, h 0)))
kept_at (v ∷ c) w (b ∷ p) h l t (suc i) k =
    let e = kept_at c (w ++ b ∷ []) p (low_tail w b v c h) (omega arith) (and_second (eqb b (get_or (w ++ b ∷ []) v 0)) (kept (w ++ b ∷ []) c p) t) i (omega arith) in
    cc (shift w b p i, append_snoc w b p)

pub kept_of : (c w p : List ℕ) → Low (length w) c → length p ≡ length c
    → ((i : ℕ) → i < length c → get_or (w ++ p) (length w + i) 0 ≡ get_or (w ++ p) (get_or c i 0) 0) → kept w c p ≡ true
unfolding kept
kept_of [] w p h l g = refl
kept_of (v ∷ c) w [] h l g = refl
kept_of (v ∷ c) w (b ∷ p) h l g =
    let a : b ≡ get_or (w ++ b ∷ []) v 0 = cc (head_at w b p, seam w b p v (omega (arith, h 0)), g 0 (omega arith)) in
    and_both (eqb b (get_or (w ++ b ∷ []) v 0)) (kept (w ++ b ∷ []) c p) (eq-eqb b (get_or (w ++ b ∷ []) v 0) a)
    (kept_of c (w ++ b ∷ []) p (low_tail w b v c h) (omega arith) (λ i k. cc (shift w b p i, append_snoc w b p, g (suc i) (omega arith))))

-- no assignment is left where the fixed bits are in one class
pub count_conflict : (n : ℕ) (qs : List Pair) → rep (classes_of n qs) 1 ≡ 0 → count n (λ p. satisfies_pairs p qs) ≡ 0
unfolding bit_of
count_conflict n qs e =
    count_ext n (λ p. satisfies_pairs p qs) (λ p. false) (λ p h. go p h (satisfies_pairs p qs) refl) ∙ count_none n
  where
    go : (p : List ℕ) → Assignment n p → (t : Bool) → satisfies_pairs p qs ≡ t → t ≡ false
    go p h false m = refl
    go p h true m =
        let k = (classes_represent n qs).just p h (satisfies-reverse p qs ∙ m) 1 in
        let z : ◌≡◌ {A = ℕ} 1 0 = cc in
        absurd (omega arith)

pub satisfies_kept : (n : ℕ) (qs : List Pair) → rep (classes_of n qs) 1 ≡ 1 → (p : List ℕ) → Assignment n p
    → satisfies_pairs p qs ≡ kept (0 ∷ 1 ∷ []) (drop 2 (classes_of n qs)) p
unfolding bit_of
satisfies_kept n qs e p h = same_test (satisfies_pairs p qs) (kept (0 ∷ 1 ∷ []) (drop 2 (classes_of n qs)) p) there back
  where
    inv : Represents n (classes_of n qs) (reverse qs)
    inv = classes_represent n qs

    len : length p ≡ length (drop 2 (classes_of n qs))
    len = assignment_length h ∙ sym (tail_length (classes_of n qs) n inv.len)

    low : Low 2 (drop 2 (classes_of n qs))
    low i = rw (tail_at (classes_of n qs) i, two i) (inv.low (suc (suc i)))

    there : satisfies_pairs p qs ≡ true → kept (0 ∷ 1 ∷ []) (drop 2 (classes_of n qs)) p ≡ true
    there m = kept_of (drop 2 (classes_of n qs)) (0 ∷ 1 ∷ []) p low len (λ i k. rw (tail_at (classes_of n qs) i, two i) (inv.just p h (satisfies-reverse p qs ∙ m) (suc (suc i))))

    back : kept (0 ∷ 1 ∷ []) (drop 2 (classes_of n qs)) p ≡ true → satisfies_pairs p qs ≡ true
    back g = sym (satisfies-reverse p qs) ∙ inv.full p h at
      where
        at : (i : ℕ) → bit_of p i ≡ bit_of p (rep (classes_of n qs) i)
        at zero = let z : rep (classes_of n qs) 0 ≡ 0 = omega (arith, inv.low 0) in rw z
        at (suc zero) = rw e
        at (suc (suc i)) = go (lt_or_le i n)
          where
            go : (i < n) ⊎ (n ≤ i) → get_or p i 0 ≡ bit_of p (rep (classes_of n qs) (suc (suc i)))
            go (inl k) =
                rw (← tail_at (classes_of n qs) i)
                (rw (two i) at (kept_at (drop 2 (classes_of n qs)) (0 ∷ 1 ∷ []) p low len g i (omega (arith, tail_length (classes_of n qs) n inv.len))))
            go (inr k) =
                let z : rep (classes_of n qs) (suc (suc i)) ≡ 0 = get_or-eq_default (classes_of n qs) 0 {n = suc (suc i)} (omega (arith, inv.len)) in
                rw z (bit_past h (suc (suc i)) (omega arith))

pub count_satisfying : (n : ℕ) (qs : List Pair) → rep (classes_of n qs) 1 ≡ 1 → count n (λ p. satisfies_pairs p qs) ≡ 2 ^ roots 2 (drop 2 (classes_of n qs))
count_satisfying n qs e =
    count_ext n (λ p. satisfies_pairs p qs) (λ p. kept (0 ∷ 1 ∷ []) (drop 2 (classes_of n qs)) p) (satisfies_kept n qs e) ∙ go
  where
    c : List ℕ
    c = drop 2 (classes_of n qs)

    len : length c ≡ n
    len = tail_length (classes_of n qs) n (classes_represent n qs).len

    bits : Bits (0 ∷ 1 ∷ [])
    bits zero = omega arith
    bits (suc zero) = omega arith
    bits (suc (suc i)) = omega arith

    low : Low 2 c
    low i = rw (tail_at (classes_of n qs) i, two i) ((classes_represent n qs).low (suc (suc i)))

    go : count n (kept (0 ∷ 1 ∷ []) c) ≡ 2 ^ roots 2 c
    go = ap (λ (m : ℕ). count m (kept (0 ∷ 1 ∷ []) c)) (sym len) ∙ count_kept c (0 ∷ 1 ∷ []) low bits
