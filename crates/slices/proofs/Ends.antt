-- The ends of pieces: one piece more, and where none is.
use mathlib.Core.Path.{◌≡◌, refl, sym, ap, ap₂, ◌∙◌}
use mathlib.Core.Logic.{◌⊎◌, inl, inr, ◌≢◌}
use mathlib.Core.Bool.{Bool, true, false, ◌&&◌, ◌||◌}
use mathlib.Core.List.{List, [], ◌∷◌, ◌++◌}
use Prim.Native.Nat.{ℕ, zero, suc, ◌+◌, ◌-◌, ◌≤◌, ◌<◌}
use native.Mathlib.Omega.{arith}
use lib.Dec.{eqb, ltb}
use lib.ListN.{length, take}
use borrow.Author.Tests.{eq-eqb, ne_eqb, lt-ltb, le-ltb}
use Rattle.laws.proofs.Bools.{not_both}
use Rattle.laws.proofs.Numbers.{lt_or_le, dec_eq}
use Rattle.slices.specs.Borders.{ends_at, total, Some, none, some}

-- at the first piece's end, before it, behind it
ends_here : (w : ℕ) (ws : List ℕ) (k : ℕ) → k ≡ w → ends_at (w ∷ ws) k ≡ true
unfolding ends_at
ends_here w ws k e = rw (eq-eqb k w e)

ends_before : (w : ℕ) (ws : List ℕ) (k : ℕ) → k < w → ends_at (w ∷ ws) k ≡ false
unfolding ends_at
ends_before w ws k l = rw (ne_eqb k w (omega arith), le-ltb w k (omega arith))

ends_behind : (w : ℕ) (ws : List ℕ) (k : ℕ) → w < k → ends_at (w ∷ ws) k ≡ ends_at ws (k - w)
unfolding ends_at
ends_behind w ws k l = rw (ne_eqb k w (omega arith), lt-ltb w k l)

-- none behind the whole, and none before the first bit
pub ends_past : (ws : List ℕ) (k : ℕ) → total ws < k → ends_at ws k ≡ false
unfolding total
ends_past [] k l = unfold ends_at in refl
ends_past (w ∷ ws) k l = ends_behind w ws k (omega arith) ∙ ends_past ws (k - w) (omega arith)

pub ends_none : (ws : List ℕ) → Some ws → ends_at ws 0 ≡ false
ends_none ws none = unfold ends_at in refl
ends_none ws (some {w = w} {ws = vs} l r) = ends_before w vs 0 l

-- one piece more at the end
pub ends_more : (ws : List ℕ) (w k : ℕ) → 1 ≤ w → ends_at (ws ++ (w ∷ [])) k ≡ ends_at ws k || eqb k (total ws + w)
unfolding total
ends_more [] w k l = go (dec_eq k w)
  where
    go : (k ≡ w) ⊎ (k ≢ w) → ends_at (w ∷ []) k ≡ ends_at [] k || eqb k (0 + w)
    go (inl e) = ends_here w [] k e ∙ sym (unfold ends_at in (eq-eqb k (0 + w) (omega arith)))
    go (inr e) = unfold ends_at in (rw (ne_eqb k w e, ne_eqb k (0 + w) (omega arith)) (dull (ltb w k)))
      where
        dull : (b : Bool) → b && false ≡ false
        dull true = refl
        dull false = refl
ends_more (v ∷ ws) w k l = go (lt_or_le k v) (dec_eq k v) (ends_more ws w (k - v) l)
  where
    go : (k < v) ⊎ (v ≤ k) → (k ≡ v) ⊎ (k ≢ v) → ends_at (ws ++ (w ∷ [])) (k - v) ≡ ends_at ws (k - v) || eqb (k - v) (total ws + w)
        → ends_at (v ∷ (ws ++ (w ∷ []))) k ≡ ends_at (v ∷ ws) k || eqb k (v + total ws + w)
    go (inl a) b r = ends_before v (ws ++ (w ∷ [])) k a ∙ sym (rw (ends_before v ws k a) (ne_eqb k (v + total ws + w) (omega arith)))
    go (inr a) (inl b) r = ends_here v (ws ++ (w ∷ [])) k b ∙ sym (rw (ends_here v ws k b) refl)
    go (inr a) (inr b) r =
        ends_behind v (ws ++ (w ∷ [])) k (omega arith) ∙ r ∙ sym (rw (ends_behind v ws k (omega arith)) (ap (λ (x : Bool). ends_at ws (k - v) || x) (shift (dec_eq (k - v) (total ws + w)))))
      where
        shift : (k - v ≡ total ws + w) ⊎ (k - v ≢ total ws + w) → eqb k (v + total ws + w) ≡ eqb (k - v) (total ws + w)
        shift (inl e) = eq-eqb k (v + total ws + w) (omega arith) ∙ sym (eq-eqb (k - v) (total ws + w) e)
        shift (inr e) = ne_eqb k (v + total ws + w) (omega arith) ∙ sym (ne_eqb (k - v) (total ws + w) e)

-- within piece i no piece ends, and at its end one does
pub ends_within : (ws : List ℕ) (i k : ℕ) → total (take i ws) < k → k < total (take (suc i) ws) → ends_at ws k ≡ false
unfolding total
ends_within [] i k a b = unfold ends_at in refl
ends_within (w ∷ ws) zero k a b = ends_before w ws k (omega arith)
ends_within (w ∷ ws) (suc i) k a b = ends_behind w ws k (omega arith) ∙ ends_within ws i (k - w) (omega arith) (omega arith)

pub ends-at : (ws : List ℕ) → Some ws → (i : ℕ) → i < length ws → ends_at ws (total (take (suc i) ws)) ≡ true
unfolding total
ends-at ws none i l = absurd (omega arith)
ends-at ws (some {w = w} {ws = vs} o r) zero l = ends_here w vs (w + total (take 0 vs)) (omega arith)
ends-at ws (some {w = w} {ws = vs} o r) (suc i) l =
    let e : w + total (take (suc i) vs) - w ≡ total (take (suc i) vs) = omega arith in
    ends_behind w vs (w + total (take (suc i) vs)) (omega (arith, positive vs r i (omega arith))) ∙ ap (ends_at vs) e ∙ ends-at vs r i (omega arith)
  where
    positive : (us : List ℕ) → Some us → (j : ℕ) → j < length us → 1 ≤ total (take (suc j) us)
    positive us none j m = absurd (omega arith)
    positive us (some {w = u} {ws = xs} p q) j m = omega arith

-- the first piece ends where nothing ended before, and behind it are the ends of the others
first_end : (w : ℕ) (ws : List ℕ) (v : ℕ) (vs : List ℕ) → 1 ≤ w → ((k : ℕ) → ends_at (w ∷ ws) k ≡ ends_at (v ∷ vs) k) → v ≤ w
first_end w ws v vs l same = go (lt_or_le w v)
  where
    go : (w < v) ⊎ (v ≤ w) → v ≤ w
    go (inr m) = m
    go (inl m) = absurd (not_both (ends_here w ws w refl) (same w ∙ ends_before v vs w m))

-- widths of at least 1 are told by their ends: no other list of widths has them
pub ends_same : (ws vs : List ℕ) → Some ws → Some vs → ((k : ℕ) → ends_at ws k ≡ ends_at vs k) → ws ≡ vs
ends_same [] [] a b same = refl
ends_same [] (v ∷ vs) a b same = absurd (not_both (ends_here v vs v refl) (sym (same v) ∙ (unfold ends_at in refl)))
ends_same (w ∷ ws) [] a b same = absurd (not_both (ends_here w ws w refl) (same w ∙ (unfold ends_at in refl)))
ends_same (w ∷ ws) (v ∷ vs) (some l a) (some m b) same =
    let e : w ≡ v = omega (arith, first_end w ws v vs l same, first_end v vs w ws m (λ k. sym (same k))) in
    ap₂ (λ (x : ℕ) (xs : List ℕ). x ∷ xs) e (ends_same ws vs a b (λ k. rest e k (dec_eq k 0)))
  where
    rest : w ≡ v → (k : ℕ) → (k ≡ 0) ⊎ (k ≢ 0) → ends_at ws k ≡ ends_at vs k
    rest e k (inl z) = rw z (ends_none ws a ∙ sym (ends_none vs b))
    rest e k (inr z) =
        let p : w + k - w ≡ k = omega arith in
        let q : w + k - v ≡ k = omega arith in
        ap (ends_at ws) (sym p) ∙ sym (ends_behind w ws (w + k) (omega arith)) ∙ same (w + k) ∙ ends_behind v vs (w + k) (omega arith) ∙ ap (ends_at vs) q
