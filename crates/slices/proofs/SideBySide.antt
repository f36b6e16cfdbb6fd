-- Sources side by side: further on, and one pair more.
use mathlib.Core.Path.{◌≡◌, refl, sym, ap, ap₂, ◌∙◌}
use mathlib.Core.Logic.{◌⊎◌, inl, inr}
use mathlib.Core.List.{List, [], ◌∷◌, ◌++◌}
use Prim.Native.Nat.{ℕ, zero, suc, ◌+◌, ◌≤◌, ◌<◌}
use native.Mathlib.Omega.{arith}
use borrow.Author.Tests.{lt-ltb, le-ltb}
use Rattle.laws.proofs.Numbers.{lt_or_le}
use Rattle.answers.specs.Pairs.{Pair}
use Rattle.slices.specs.Along.{along, run_pairs}

pub along_fixed : (g k : ℕ) → g < 2 → along g k ≡ g
unfolding along
along_fixed g k l = rw (lt-ltb g 2 l)

pub along_place : (g k : ℕ) → 2 ≤ g → along g k ≡ g + k
unfolding along
along_place g k l = rw (le-ltb g 2 l)

pub along_none : (g : ℕ) → along g 0 ≡ g
along_none g = go (lt_or_le g 2)
  where
    go : (g < 2) ⊎ (2 ≤ g) → along g 0 ≡ g
    go (inl l) = along_fixed g 0 l
    go (inr l) = along_place g 0 l ∙ omega arith

pub along_more : (g k m : ℕ) → along (along g k) m ≡ along g (k + m)
along_more g k m = go (lt_or_le g 2)
  where
    go : (g < 2) ⊎ (2 ≤ g) → along (along g k) m ≡ along g (k + m)
    go (inl l) = ap (λ (x : ℕ). along x m) (along_fixed g k l) ∙ along_fixed g m l ∙ sym (along_fixed g (k + m) l)
    go (inr l) =
        let e : along g k ≡ g + k = along_place g k l in
        ap (λ (x : ℕ). along x m) e ∙ along_place (g + k) m (omega arith) ∙ omega (arith, along_place g (k + m) l)

abbrev pair_at : ℕ → ℕ → Pair
pair_at s t = record { left = s; right = t }

-- one pair more at the end, and runs one behind the other
pub pairs_more : (a b k : ℕ) → run_pairs a b (suc k) ≡ run_pairs a b k ++ (record { left = along a k; right = along b k } ∷ [])
unfolding run_pairs
pairs_more a b zero = ap₂ (λ (x y : ℕ). pair_at x y ∷ []) (sym (along_none a)) (sym (along_none b))
pairs_more a b (suc k) =
    let e : 1 + k ≡ suc k = omega arith in
    ap (λ (qs : List Pair). pair_at a b ∷ qs)
    (pairs_more (along a 1) (along b 1) k
    ∙ ap₂ (λ (x y : ℕ). run_pairs (along a 1) (along b 1) k ++ (pair_at x y ∷ [])) (along_more a 1 k ∙ ap (along a) e) (along_more b 1 k ∙ ap (along b) e))

pub pairs_split : (a b m n : ℕ) → run_pairs a b (m + n) ≡ run_pairs a b m ++ run_pairs (along a m) (along b m) n
unfolding run_pairs
pairs_split a b zero n =
    let e : 0 + n ≡ n = omega arith in
    ap (run_pairs a b) e ∙ ap₂ (λ (x y : ℕ). run_pairs x y n) (sym (along_none a)) (sym (along_none b))
pairs_split a b (suc m) n =
    let e : suc m + n ≡ suc (m + n) = omega arith in
    let o : 1 + m ≡ suc m = omega arith in
    ap (run_pairs a b) e
    ∙ ap (λ (qs : List Pair). pair_at a b ∷ qs)
    (pairs_split (along a 1) (along b 1) m n
    ∙ ap₂ (λ (x y : ℕ). run_pairs (along a 1) (along b 1) m ++ run_pairs x y n) (along_more a 1 m ∙ ap (along a) o) (along_more b 1 m ∙ ap (along b) o))
