-- Neighbours are marked at the ends of runs alone: within a run each place has the neighbours of its representative, or those of the place
-- before.
use mathlib.Core.Path.{◌≡◌, refl, sym, ap, ◌∙◌, subst}
use mathlib.Core.Logic.{◌⊎◌, inl, inr}
use mathlib.Core.Bool.{Bool, true, false, not, ◌&&◌, cond}
use mathlib.Core.List.{List}
use Prim.Native.Nat.{ℕ, zero, suc, ◌+◌, ◌-◌, ◌≤◌, ◌<◌}
use native.Mathlib.Omega.{arith}
use lib.Dec.{eqb, ltb}
use lib.ListN.{length, get_or, set}
use lib.Seq.{set-get_or}
use borrow.Author.Tests.{eq-eqb, eqb-true, lt-ltb, le-ltb}
use Rattle.laws.specs.Lists.{below}
use Rattle.laws.proofs.Numbers.{lt_or_le}
use Rattle.answers.specs.inner.Classes.{rep}
use Rattle.borders.specs.inner.Borders.{beside_in, even_at, uneven_with, goes_in}
use Rattle.borders.proofs.Sweeping.{Swept, swept_more}
use Rattle.slices.specs.Along.{along}
use Rattle.slices.proofs.SideBySide.{along_fixed, along_place}
use Rattle.runs.specs.inner.Runs.{Runs, Seated}

-- a place that changes no mark
module _ (m c : List ℕ) (side : ℕ) (u₀ u : List ℕ) (j : ℕ) where
  abbrev r : ℕ
  r = rep c (suc (suc j))

  -- it has the neighbour of its representative
  pub mark_even : beside_in m c side j ≡ beside_in m c side (rep c (suc (suc j)) - 2) → u ≡ uneven_with m c side j u
  unfolding uneven_with
  mark_even e = rw (eq-eqb (beside_in m c side j) (beside_in m c side (r - 2)) e) (sym (set-get_or u r 0))

-- or it is like the place before it, which was passed
pub mark_like : (m c : List ℕ) (side : ℕ) (u₀ u : List ℕ) (i : ℕ) → Swept m c side (suc i) u₀ u → rep c (suc (suc i)) < length u₀ → rep c (suc (suc (suc i))) ≡ rep c (suc (suc i))
    → beside_in m c side (suc i) ≡ beside_in m c side i → u ≡ uneven_with m c side (suc i) u
mark_like m c side u₀ u i W small same beside = go (eqb (beside_in m c side i) (beside_in m c side (rep c (suc (suc i)) - 2))) refl
  where
    r : ℕ
    r = rep c (suc (suc i))

    marked : eqb (beside_in m c side i) (beside_in m c side (rep c (suc (suc i)) - 2)) ≡ false → get_or u (rep c (suc (suc i))) 0 ≡ 1
    marked f = W.marks r small ∙ (unfold even_at below in (rw (eq-eqb r r refl, f)))

    go : (b : Bool) → eqb (beside_in m c side i) (beside_in m c side (rep c (suc (suc i)) - 2)) ≡ b → u ≡ uneven_with m c side (suc i) u
    go true f =
        mark_even m c side u₀ u (suc i)
        (beside ∙ eqb-true (beside_in m c side i) (beside_in m c side (r - 2)) f ∙ ap (λ (x : ℕ). beside_in m c side (x - 2)) (sym same))
    go false f = unfold uneven_with in (rw (same, beside, f) (sym (ap (set u r) (sym (marked f)) ∙ set-get_or u r 0)))

-- a run of places: from one of them to the next
module _ (n : ℕ) (S : ℕ → Bool) (m c last first : List ℕ) (marks_are : (i : ℕ) → i ≤ n → get_or m i 0 ≡ cond (S i) 1 0)
    (root : (i : ℕ) → rep c (rep c i) ≡ rep c i) (R : Runs (λ x. S (x - 2)) (n + 2) c last first) (seated : Seated (λ x. S (x - 2)) (n + 2) c last)
    (i : ℕ) (l : i < n) (on : suc (suc i) < get_or last (suc (suc i)) 0) where
  abbrev C : ℕ → ℕ
  C k = rep c (suc (suc k))

  shut_next : S (suc i) ≡ false
  shut_next = ap S (omega arith) ∙ R.inside (suc (suc i)) (omega arith) on (omega arith)

  mark_open : (j : ℕ) → j ≤ n → S j ≡ false → eqb (get_or m j 0) 0 ≡ true
  mark_open j a e = eq-eqb (get_or m j 0) 0 (marks_are j a ∙ ap (λ (b : Bool). cond {A = ℕ} b 1 0) e)

  next-in : C (suc i) ≡ along (C i) 1
  next-in = R.side (suc (suc i)) (omega arith) on (omega arith)

  -- the neighbour behind, and the neighbour before the next place
  behind_is : beside_in m c 1 i ≡ C (suc i)
  unfolding beside_in
  behind_is =
      let e : i + 1 ≡ suc i = omega arith in
      let f : i + 1 + 1 + 1 ≡ suc (suc (suc i)) = omega arith in
      rw (f, e, mark_open (suc i) (omega arith) shut_next)

  before_is : beside_in m c 0 (suc i) ≡ C i
  unfolding beside_in
  before_is =
      let e : suc i + 0 ≡ suc i = omega arith in
      let f : suc i + 0 + 0 + 1 ≡ suc (suc i) = omega arith in
      rw (f, e, mark_open (suc i) (omega arith) shut_next)

  module _ (free : 2 ≤ rep c (suc (suc i))) where
    up : C (suc i) ≡ suc (C i)
    up = next-in ∙ along_place (C i) 1 free ∙ omega arith

    open_low : S (C i - 1) ≡ false
    open_low = let e : suc (C i) - 2 ≡ C i - 1 = omega arith in ap S (sym e) ∙ seated (suc (suc i)) (omega arith) on (omega arith) free

    small_low : C i - 1 ≤ n → eqb (get_or m (C i - 1) 0) 0 ≡ true
    small_low a = mark_open (C i - 1) a open_low

    module _ (low : rep c (suc (suc i)) ≤ suc (suc i)) where
      low_behind : beside_in m c 1 (rep c (suc (suc i)) - 2) ≡ C (suc i)
      unfolding beside_in
      low_behind =
          let e : C i - 2 + 1 ≡ C i - 1 = omega arith in
          let f : C i - 2 + 1 + 1 + 1 ≡ C (suc i) = omega (arith, up) in
          rw (f, e, small_low (omega arith)) (root (suc (suc (suc i))))

      low_before : beside_in m c 0 (rep c (suc (suc (suc i))) - 2) ≡ C i
      unfolding beside_in
      low_before =
          let e : C (suc i) - 2 + 0 ≡ C i - 1 = omega (arith, up) in
          let f : C (suc i) - 2 + 0 + 0 + 1 ≡ C i = omega (arith, up) in
          rw (f, e, small_low (omega arith)) (root (suc (suc i)))

      pub behind_even : beside_in m c 1 i ≡ beside_in m c 1 (rep c (suc (suc i)) - 2)
      behind_even = behind_is ∙ sym low_behind

      pub before_even : beside_in m c 0 (suc i) ≡ beside_in m c 0 (rep c (suc (suc (suc i))) - 2)
      before_even = before_is ∙ sym low_before

  -- the next place goes on with the row of this one, if no mark stands between their representatives
  pub stretch_on : (after before : List ℕ) → (2 ≤ rep c (suc (suc i)) → (get_or after (rep c (suc (suc i))) 0 ≡ 0) × (get_or before (suc (rep c (suc (suc i)))) 0 ≡ 0))
      → goes_in m c after before (suc i) ≡ true
  unfolding goes_in
  stretch_on after before clear = rw (mark_open (suc i) (omega arith) shut_next) (go (lt_or_le (C i) 2))
    where
      go : (C i < 2) ⊎ (2 ≤ C i)
          → cond (ltb (C (suc i)) 2) (eqb (C i) (C (suc i))) (not (ltb (C i) 2) && eqb (get_or after (C i) 0) 0 && eqb (get_or before (C (suc i)) 0) 0) ≡ true
      go (inl a) =
          let e : C (suc i) ≡ C i = next-in ∙ along_fixed (C i) 1 a in
          rw (e, lt-ltb (C i) 2 a) (eq-eqb (C i) (C i) refl)
      go (inr a) =
          let e : C (suc i) ≡ suc (C i) = up a in
          rw (e, le-ltb (suc (C i)) 2 (omega arith), le-ltb (C i) 2 a, eq-eqb (get_or after (C i) 0) 0 (clear a).0) (eq-eqb (get_or before (suc (C i)) 0) 0 (clear a).1)

-- the places within a run, behind its first two and before its last, change no mark
module _ (n : ℕ) (S : ℕ → Bool) (m c last first : List ℕ) (marks_are : (i : ℕ) → i ≤ n → get_or m i 0 ≡ cond (S i) 1 0) (low : (i : ℕ) → rep c i ≤ i)
    (root : (i : ℕ) → rep c (rep c i) ≡ rep c i) (R : Runs (λ x. S (x - 2)) (n + 2) c last first) (seated : Seated (λ x. S (x - 2)) (n + 2) c last)
    (side : ℕ) (either : (side ≡ 0) ⊎ (side ≡ 1)) (u₀ u : List ℕ) (room : n + 2 ≤ length u₀) where
  inner_none : (i : ℕ) → suc (suc i) < n → suc (suc i) < get_or last (suc (suc i)) 0 → suc (suc (suc i)) < get_or last (suc (suc (suc i))) 0
      → suc (suc (suc (suc i))) < get_or last (suc (suc (suc (suc i)))) 0 → Swept m c side (suc (suc i)) u₀ u → u ≡ uneven_with m c side (suc (suc i)) u
  inner_none i l on₀ on₁ on₂ W = go (lt_or_le (rep c (suc (suc (suc i)))) 2) either
    where
      C : ℕ → ℕ
      C k = rep c (suc (suc k))

      here : C (suc (suc i)) ≡ along (C (suc i)) 1
      here = R.side (suc (suc (suc i))) (omega arith) on₁ (omega arith)

      next : C (suc (suc (suc i))) ≡ along (C (suc (suc i))) 1
      next = R.side (suc (suc (suc (suc i)))) (omega arith) on₂ (omega arith)

      first_is : C (suc i) ≡ along (C i) 1
      first_is = R.side (suc (suc i)) (omega arith) on₀ (omega arith)

      go : (rep c (suc (suc (suc i))) < 2) ⊎ (2 ≤ rep c (suc (suc (suc i)))) → (side ≡ 0) ⊎ (side ≡ 1) → u ≡ uneven_with m c side (suc (suc i)) u
      go (inr a) (inl e) =
          mark_even m c side u₀ u (suc (suc i))
          (rw e (before_even n S m c last first marks_are root R seated (suc i) (omega arith) on₁ a (low (suc (suc (suc i))))))
      go (inr a) (inr e) =
          mark_even m c side u₀ u (suc (suc i))
          (rw e (behind_even n S m c last first marks_are root R seated (suc (suc i)) l on₂ (omega (arith, here, along_place (C (suc i)) 1 a)) (low (suc (suc (suc (suc i)))))))
      go (inl a) (inl e) = mark_like m c side u₀ u (suc i) W (omega arith) same
          (rw e (before_is n S m c last first marks_are root R seated (suc i) (omega arith) on₁ ∙ back (lt_or_le (C i) 2) ∙ sym (before_is n S m c last first marks_are root R seated i (omega arith) on₀)))
        where
          same : C (suc (suc i)) ≡ C (suc i)
          same = here ∙ along_fixed (C (suc i)) 1 a

          back : (C i < 2) ⊎ (2 ≤ C i) → C (suc i) ≡ C i
          back (inl b) = first_is ∙ along_fixed (C i) 1 b
          back (inr b) = absurd (omega (arith, first_is, along_place (C i) 1 b))
      go (inl a) (inr e) = mark_like m c side u₀ u (suc i) W (omega arith) same
          (rw e (behind_is n S m c last first marks_are root R seated (suc (suc i)) l on₂ ∙ next ∙ along_fixed (C (suc (suc i))) 1 (omega (arith, same)) ∙ sym (behind_is n S m c last first marks_are root R seated (suc i) (omega arith) on₁)))
        where
          same : C (suc (suc i)) ≡ C (suc i)
          same = here ∙ along_fixed (C (suc i)) 1 a

  -- so the sweep behind the first two places of a run is that before its last
  pub inner_swept : (k t d : ℕ) → t < n → suc (suc k) + d ≤ t → ((j : ℕ) → k ≤ j → j < t → suc (suc j) < get_or last (suc (suc j)) 0)
      → Swept m c side (suc (suc k)) u₀ u → Swept m c side (suc (suc k) + d) u₀ u
  inner_swept k t zero l h on W = let e : suc (suc k) + 0 ≡ suc (suc k) = omega arith in subst (λ (x : ℕ). Swept m c side x u₀ u) (sym e) W
  inner_swept k t (suc d) l h on W =
      let X = inner_swept k t d l (omega arith) on W in
      let e : suc (suc k) + d ≡ suc (suc (k + d)) = omega arith in
      let f : suc (suc (k + d)) + 1 ≡ suc (suc k) + suc d = omega arith in
      let Y : Swept m c side (suc (suc (k + d))) u₀ u = subst (λ (x : ℕ). Swept m c side x u₀ u) e X in
      subst (λ (x : ℕ). Swept m c side x u₀ u) f
      (swept_more m c side (suc (suc (k + d))) u₀ u u Y refl
      (inner_none (k + d) (omega arith) (on (k + d) (omega arith) (omega arith)) (on (suc (k + d)) (omega arith) (omega arith)) (on (suc (suc (k + d))) (omega arith) (omega arith)) Y))
