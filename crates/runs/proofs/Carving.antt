-- A run carved out of a run: what is left of that on either side stays a run.
use mathlib.Core.Path.{◌≡◌, sym, ap, ◌∙◌}
use mathlib.Core.Logic.{◌⊎◌, inl, inr}
use mathlib.Core.Bool.{Bool, false}
use mathlib.Core.List.{List}
use Prim.Native.Nat.{ℕ, suc, ◌+◌, ◌-◌, ◌≤◌, ◌<◌}
use native.Mathlib.Omega.{arith}
use lib.ListN.{get_or}
use Rattle.laws.proofs.Numbers.{lt_or_le}
use Rattle.slices.specs.Along.{along}
use Rattle.slices.proofs.SideBySide.{along_fixed, along_place, along_more}
use Rattle.runs.specs.inner.Runs.{Runs, Seated, Carved}

module _ (shut : ℕ → Bool) (n : ℕ) (h last first : List ℕ) (R : Runs shut n h last first)
    (lo len g : ℕ) (h' last' first' : List ℕ) (C : Carved lo len g h last first h' last' first')
    (two : 2 ≤ lo) (small : lo < n) (some : 1 ≤ len) (fits : lo + len ≤ suc (get_or last lo 0)) where
  abbrev t : ℕ
  t = get_or last lo 0

  abbrev f : ℕ
  f = get_or first (get_or last lo 0) 0

  -- the last of a run is of that run
  own : (s : ℕ) → 2 ≤ s → s < n → get_or last (get_or last s 0) 0 ≡ get_or last s 0
  own s a b = R.whole s (get_or last s 0) a b (omega (arith, R.starts s a b, R.ends s a b)) (omega arith)

  -- where a source stands
  data Where (s : ℕ) : Type 0 where
    left : f ≤ s → s < lo → get_or last s 0 ≡ t → Where s
    mid : lo ≤ s → s < lo + len → get_or last s 0 ≡ t → Where s
    right : lo + len ≤ s → s ≤ t → get_or last s 0 ≡ t → Where s
    low : s < f → get_or last s 0 < f → Where s
    high : t < s → t < get_or first (get_or last s 0) 0 → Where s

  in_run : (s : ℕ) → f ≤ s → s ≤ t → get_or last s 0 ≡ t
  in_run s a b = R.whole lo s two small a b

  locate : (s : ℕ) → 2 ≤ s → s < n → Where s
  locate s a b = go (lt_or_le s f) (lt_or_le s lo) (lt_or_le s (lo + len)) (lt_or_le t s)
    where
      go : (s < f) ⊎ (f ≤ s) → (s < lo) ⊎ (lo ≤ s) → (s < lo + len) ⊎ (lo + len ≤ s) → (t < s) ⊎ (s ≤ t) → Where s
      go (inl p) q r v = low p (below (lt_or_le (get_or last s 0) f))
        where
          below : (get_or last s 0 < f) ⊎ (f ≤ get_or last s 0) → get_or last s 0 < f
          below (inl l) = l
          below (inr l) = absurd (clash (lt_or_le t (get_or last s 0)))
            where
              clash : (t < get_or last s 0) ⊎ (get_or last s 0 ≤ t) → ⊥
              clash (inl m) = omega (arith, R.whole s lo a b (omega (arith, R.starts s a b, R.starts lo two small)) (omega (arith, R.ends lo two small)), R.starts s a b)
              clash (inr m) =
                  let e : get_or last s 0 ≡ t = sym (own s a b) ∙ in_run (get_or last s 0) l m in
                  omega (arith, ap (λ (x : ℕ). get_or first x 0) e, R.starts s a b)
      go (inr p) (inl q) r v = left p q (in_run s p (omega (arith, R.ends lo two small)))
      go (inr p) (inr q) (inl r) v = mid q r (in_run s p (omega arith))
      go (inr p) (inr q) (inr r) (inl v) = high v (above (lt_or_le t (get_or first (get_or last s 0) 0)))
        where
          above : (t < get_or first (get_or last s 0) 0) ⊎ (get_or first (get_or last s 0) 0 ≤ t) → t < get_or first (get_or last s 0) 0
          above (inl l) = l
          above (inr l) = absurd (omega (arith, R.whole s t a b l (omega (arith, R.ends s a b)), own lo two small, R.ends s a b))
      go (inr p) (inr q) (inr r) (inr v) = right r v (in_run s p v)

  -- the run of a source in the mid, left and right
  new_last : (s : ℕ) → 2 ≤ s → s < n → (s ≤ get_or last' s 0) × (get_or last' s 0 < n)
  new_last s a b = go (locate s a b)
    where
      go : Where s → (s ≤ get_or last' s 0) × (get_or last' s 0 < n)
      go (left p q e) = omega (arith, C.last_left s q p)
      go (mid p q e) = omega (arith, C.last_in s p q, R.ends lo two small)
      go (right p q e) = omega (arith, C.last_behind s p, R.ends s a b)
      go (low p q) = omega (arith, C.last_low s (omega (arith, R.starts lo two small)) p, R.ends s a b)
      go (high p q) = omega (arith, C.last_behind s (omega arith), R.ends s a b)

  -- its first source
  new_first : (s : ℕ) → 2 ≤ s → s < n → (2 ≤ get_or first' (get_or last' s 0) 0) × (get_or first' (get_or last' s 0) 0 ≤ s)
  new_first s a b = go (locate s a b)
    where
      go : Where s → (2 ≤ get_or first' (get_or last' s 0) 0) × (get_or first' (get_or last' s 0) 0 ≤ s)
      go (left p q e) = let x : suc (get_or last' s 0) ≡ lo = C.last_left s q p in omega (arith, C.first_left (get_or last' s 0) x (omega arith), R.starts lo two small)
      go (mid p q e) = let x : suc (get_or last' s 0) ≡ lo + len = C.last_in s p q in omega (arith, C.first-in (get_or last' s 0) x)
      go (right p q e) = let x : get_or last' s 0 ≡ t = C.last_behind s p ∙ e in omega (arith, C.first_right (get_or last' s 0) x (omega arith))
      go (low p q) =
          let x : get_or last' s 0 ≡ get_or last s 0 = C.last_low s (omega (arith, R.starts lo two small)) p in
          omega (arith, ap (λ (y : ℕ). get_or first' y 0) x, C.first_low (get_or last s 0) q, R.starts s a b)
      go (high p q) =
          let x : get_or last' s 0 ≡ get_or last s 0 = C.last_behind s (omega arith) in
          omega (arith, ap (λ (y : ℕ). get_or first' y 0) x, C.first_high (get_or last s 0) (omega (arith, R.ends s a b)), R.starts s a b)

  new_whole : (s x : ℕ) → 2 ≤ s → s < n → get_or first' (get_or last' s 0) 0 ≤ x → x ≤ get_or last' s 0 → get_or last' x 0 ≡ get_or last' s 0
  new_whole s x a b u v = go (locate s a b)
    where
      go : Where s → get_or last' x 0 ≡ get_or last' s 0
      go (left p q e) =
          let y : suc (get_or last' s 0) ≡ lo = C.last_left s q p in
          let z : f ≤ x = omega (arith, C.first_left (get_or last' s 0) y (omega arith)) in
          omega (arith, C.last_left x (omega arith) z)
      go (mid p q e) =
          let y : suc (get_or last' s 0) ≡ lo + len = C.last_in s p q in
          omega (arith, C.last_in x (omega (arith, C.first-in (get_or last' s 0) y)) (omega arith))
      go (right p q e) =
          let y : get_or last' s 0 ≡ t = C.last_behind s p ∙ e in
          let z : lo + len ≤ x = omega (arith, C.first_right (get_or last' s 0) y (omega arith)) in
          C.last_behind x z ∙ in_run x (omega (arith, R.starts lo two small)) (omega arith) ∙ sym y
      go (low p q) =
          let y : get_or last' s 0 ≡ get_or last s 0 = C.last_low s (omega (arith, R.starts lo two small)) p in
          let z : get_or first (get_or last s 0) 0 ≤ x = omega (arith, ap (λ (w : ℕ). get_or first' w 0) y, C.first_low (get_or last s 0) q) in
          C.last_low x (omega (arith, R.starts lo two small)) (omega arith) ∙ R.whole s x a b z (omega arith) ∙ sym y
      go (high p q) =
          let y : get_or last' s 0 ≡ get_or last s 0 = C.last_behind s (omega arith) in
          let z : get_or first (get_or last s 0) 0 ≤ x = omega (arith, ap (λ (w : ℕ). get_or first' w 0) y, C.first_high (get_or last s 0) (omega (arith, R.ends s a b))) in
          C.last_behind x (omega arith) ∙ R.whole s x a b z (omega arith) ∙ sym y

  -- where a run goes on: within the new run, or where one went on before, with the links as they were
  data Goes (s : ℕ) : Type 0 where
    new : (k : ℕ) → s ≡ lo + k → suc k < len → Goes s
    old : s < get_or last s 0 → get_or h' s 0 ≡ get_or h s 0 → get_or h' (suc s) 0 ≡ get_or h (suc s) 0 → Goes s

  goes : (s : ℕ) → 2 ≤ s → s < get_or last' s 0 → s < n → Goes s
  goes s a m b = go (locate s a b)
    where
      go : Where s → Goes s
      go (left p q e) = let y = C.last_left s q p in old (omega (arith, R.ends lo two small)) (C.h_before s q) (C.h_before (suc s) (omega arith))
      go (mid p q e) = let y = C.last_in s p q in let z : s ≡ lo + (s - lo) = omega arith in new (s - lo) z (omega arith)
      go (right p q e) = let y = C.last_behind s p in old (omega arith) (C.h_behind s p) (C.h_behind (suc s) (omega arith))
      go (low p q) =
          let y = C.last_low s (omega (arith, R.starts lo two small)) p in
          old (omega arith) (C.h_before s (omega (arith, R.starts lo two small))) (C.h_before (suc s) (omega (arith, R.starts lo two small)))
      go (high p q) = let y = C.last_behind s (omega arith) in old (omega arith) (C.h_behind s (omega arith)) (C.h_behind (suc s) (omega arith))

  new_side : (s : ℕ) → 2 ≤ s → s < get_or last' s 0 → s < n → get_or h' (suc s) 0 ≡ along (get_or h' s 0) 1
  new_side s a m b = go (goes s a m b)
    where
      go : Goes s → get_or h' (suc s) 0 ≡ along (get_or h' s 0) 1
      go (new k e l) =
          let y : suc s ≡ lo + suc k = omega arith in
          let z : k + 1 ≡ suc k = omega arith in
          ap (λ (x : ℕ). get_or h' x 0) y ∙ C.h_in (suc k) l ∙ ap (along g) (sym z) ∙ sym (along_more g k 1)
          ∙ ap (λ (x : ℕ). along x 1) (sym (ap (λ (x : ℕ). get_or h' x 0) e ∙ C.h_in k (omega arith)))
      go (old l x y) = y ∙ R.side s a l b ∙ ap (λ (z : ℕ). along z 1) (sym x)

  new_inside : (s : ℕ) → 2 ≤ s → s < get_or last' s 0 → s < n → shut (suc s) ≡ false
  new_inside s a m b = go (goes s a m b)
    where
      go : Goes s → shut (suc s) ≡ false
      go (new k e l) = R.inside s a (omega (arith, in_run s (omega (arith, R.starts lo two small)) (omega arith))) b
      go (old l x y) = R.inside s a l b

  pub carved_runs : Runs shut n h' last' first'
  carved_runs = record { ends = new_last; starts = new_first; whole = new_whole; side = new_side; inside = new_inside }

  -- what the sources below the end of the new run link to, where lo is the first of them that was not seated
  pub carved_seated : Seated shut lo h last → (2 ≤ g → (k : ℕ) → suc k < len → shut (suc (g + k)) ≡ false) → Seated shut (lo + len) h' last'
  carved_seated old-seated open' s a m b w = go (lt_or_le s lo)
    where
      go : (s < lo) ⊎ (lo ≤ s) → shut (suc (get_or h' s 0)) ≡ false
      go (inl i) = early (goes s a m (omega arith))
        where
          early : Goes s → shut (suc (get_or h' s 0)) ≡ false
          early (new k e l) = absurd (omega arith)
          early (old l x y) = ap (λ (z : ℕ). shut (suc z)) x ∙ old-seated s a l i (omega arith)
      go (inr i) = ap (λ (x : ℕ). shut (suc x)) (y (lt_or_le g 2)).1 ∙ open' (y (lt_or_le g 2)).0 (s - lo) (omega (arith, C.last_in s i b))
        where
          e : s ≡ lo + (s - lo)
          e = omega arith

          z : get_or h' s 0 ≡ along g (s - lo)
          z = ap (λ (x : ℕ). get_or h' x 0) e ∙ C.h_in (s - lo) (omega arith)

          y : (g < 2) ⊎ (2 ≤ g) → (2 ≤ g) × (get_or h' s 0 ≡ g + (s - lo))
          y (inl j) = absurd (omega (arith, z, along_fixed g (s - lo) j))
          y (inr j) = (j, z ∙ along_place g (s - lo) j)
