-- The closing sweep, run by run.
use mathlib.Core.Path.{◌≡◌, refl, sym, ap, ◌∙◌, subst}
use mathlib.Core.Logic.{◌⊎◌, inl, inr}
use mathlib.Core.Bool.{Bool, false}
use mathlib.Core.List.{List}
use Prim.Native.Nat.{ℕ, zero, suc, ◌+◌, ◌-◌, ◌%◌, ◌≤◌, ◌<◌, min, max}
use native.Mathlib.Omega.{arith}
use lib.ListN.{length, get_or}
use lib.Seq.{ext_get_or}
use Rattle.laws.proofs.Numbers.{lt_or_le}
use Rattle.answers.specs.inner.Classes.{rep}
use Rattle.classes.specs.inner.Links.{roots_of}
use Rattle.classes.proofs.Links.{Stands}
use Rattle.classes.proofs.Roots.{stands_roots, roots-length}
use Rattle.slices.specs.Along.{along}
use Rattle.slices.proofs.SideBySide.{along_fixed, along_place}
use Rattle.runs.specs.inner.Runs.{Runs, Seated, Carved}
use Rattle.runs.specs.inner.Carves.{Carves}
use Rattle.run_pairs.specs.inner.Taken.{State}
use Rattle.run_sweep.specs.inner.Settled.{Sweeping, RunSettled, SettlesRun, Settled}
use Rattle.runs.proofs.Carving.{carved_runs, carved_seated}
use Rattle.runs.proofs.Finding.{side_all}

-- the sweep, at a run's source
module _ (shut : ℕ → Bool) (h₀ last₀ first₀ : List ℕ) (S₀ : State shut h₀ last₀ first₀) (h last first : List ℕ) (i : ℕ) (two : 2 ≤ i) (small : i < length h₀)
    (W : Sweeping shut h₀ h last first i) (len : ℕ) (some : 1 ≤ len) (fits : i + len ≤ suc (get_or last i 0)) where
  T : Stands h₀ (roots_of h₀)
  T = stands_roots h₀ S₀.low

  ends : (i ≤ get_or last i 0) × (get_or last i 0 < length h₀)
  ends = W.runs.ends i two small

  side : (s k : ℕ) → 2 ≤ s → s < length h₀ → s + k ≤ get_or last s 0 → get_or h (s + k) 0 ≡ along (get_or h s 0) k
  side = side_all shut (length h₀) h last first W.runs

  -- its links are roots already
  stays : ((k : ℕ) → k < len → get_or h (i + k) 0 ≡ rep (roots_of h₀) (i + k)) → Seated shut (i + len) h last → RunSettled shut h₀ h last first i len
  stays at seated = record {
    some = some;
    within = omega (arith, ends);
    sweeping = record {
      runs = W.runs;
      seated = seated;
      done = λ j l. go j l (lt_or_le j i);
      rest = λ j l. W.rest j (omega arith);
    };
  }
    where
      go : (j : ℕ) → j < i + len → (j < i) ⊎ (i ≤ j) → get_or h j 0 ≡ rep (roots_of h₀) j
      go j l (inl a) = W.done j a
      go j l (inr a) = let e : j ≡ i + (j - i) = omega arith in ap (λ (x : ℕ). get_or h x 0) e ∙ at (j - i) (omega arith) ∙ ap (rep (roots_of h₀)) (sym e)

  pub settled_root : i ≤ get_or h i 0 → RunSettled shut h₀ h last first i len
  settled_root l = stays at seated
    where
      own : get_or h i 0 ≡ i
      own = omega (arith, W.rest i (omega arith), S₀.low i)

      self : (k : ℕ) → i + k ≤ get_or last i 0 → get_or h (i + k) 0 ≡ i + k
      self k m = side i k two small m ∙ ap (λ (y : ℕ). along y k) own ∙ along_place i k two

      at : (k : ℕ) → k < len → get_or h (i + k) 0 ≡ rep (roots_of h₀) (i + k)
      at k m = self k (omega arith) ∙ sym (T.top (i + k) (sym (W.rest (i + k) (omega arith)) ∙ self k (omega arith)))

      seated : Seated shut (i + len) h last
      seated s a b m w = go (lt_or_le s i)
        where
          go : (s < i) ⊎ (i ≤ s) → shut (suc (get_or h s 0)) ≡ false
          go (inl z) = W.seated s a b z w
          go (inr z) =
              let e : i + (s - i) ≡ s = omega arith in
              let y : get_or h s 0 ≡ s = sym (ap (λ (x : ℕ). get_or h x 0) e) ∙ self (s - i) (omega arith) ∙ e in
              ap (λ (x : ℕ). shut (suc x)) y ∙ W.runs.inside s a b (omega (arith, ends))

  pub settled_fixed : get_or h i 0 < 2 → RunSettled shut h₀ h last first i len
  settled_fixed l = stays at seated
    where
      still : (k : ℕ) → i + k ≤ get_or last i 0 → get_or h (i + k) 0 ≡ get_or h i 0
      still k m = side i k two small m ∙ along_fixed (get_or h i 0) k l

      own : (y : ℕ) → y < 2 → y ≡ rep (roots_of h₀) y
      own zero z = omega (arith, T.canon.low 0)
      own (suc zero) z = sym S₀.one
      own (suc (suc y)) z = absurd (omega arith)

      at : (k : ℕ) → k < len → get_or h (i + k) 0 ≡ rep (roots_of h₀) (i + k)
      at k m =
          still k (omega arith) ∙ own (get_or h i 0) l ∙ ap (rep (roots_of h₀)) (sym (still k (omega arith)) ∙ W.rest (i + k) (omega arith)) ∙ T.keep (i + k)

      seated : Seated shut (i + len) h last
      seated s a b m w = go (lt_or_le s i)
        where
          go : (s < i) ⊎ (i ≤ s) → shut (suc (get_or h s 0)) ≡ false
          go (inl z) = W.seated s a b z w
          go (inr z) =
              let e : i + (s - i) ≡ s = omega arith in
              absurd (omega (arith, sym (ap (λ (x : ℕ). get_or h x 0) e) ∙ still (s - i) (omega arith)))

  -- a run that links to a run below goes where that goes
  module _ (g to : ℕ) (link : get_or h i 0 ≡ g) (place : 2 ≤ g) (below : g + len ≤ i) (Fits-below : g + len ≤ suc (get_or last g 0)) (goal : get_or h g 0 ≡ to)
      (h' last' first' : List ℕ) (K : Carved i len to h last first h' last' first') where
    pub settled_link : RunSettled shut h₀ h' last' first' i len
    settled_link = record {
      some = some;
      within = omega (arith, ends);
      sweeping = record {
        runs = carved_runs shut (length h₀) h last first W.runs i len to h' last' first' K two small some fits;
        seated = carved_seated shut (length h₀) h last first W.runs i len to h' last' first' K two small some fits W.seated open';
        done = λ j l. go j l (lt_or_le j i);
        rest = λ j l. K.h_behind j l ∙ W.rest j (omega arith);
      };
    }
      where
        lower : (k : ℕ) → k < len → get_or h (g + k) 0 ≡ along to k
        lower k l = side g k place (omega arith) (omega arith) ∙ ap (λ (y : ℕ). along y k) goal

        open' : 2 ≤ to → (k : ℕ) → suc k < len → shut (suc (to + k)) ≡ false
        open' z k l =
            let e : get_or h (g + k) 0 ≡ to + k = lower k (omega arith) ∙ along_place to k z in
            let same : get_or last (g + k) 0 ≡ get_or last g 0 = W.runs.whole g (g + k) place (omega arith) (omega (arith, W.runs.starts g place (omega arith))) (omega arith) in
            ap (λ (x : ℕ). shut (suc x)) (sym e) ∙ W.seated (g + k) (omega arith) (omega arith) (omega arith) (omega arith)

        at : (k : ℕ) → k < len → get_or h' (i + k) 0 ≡ rep (roots_of h₀) (i + k)
        at k l =
            let mine : get_or h (i + k) 0 ≡ g + k = side i k two small (omega arith) ∙ ap (λ (y : ℕ). along y k) link ∙ along_place g k place in
            K.h_in k l ∙ sym (lower k l) ∙ W.done (g + k) (omega arith) ∙ ap (rep (roots_of h₀)) (sym mine ∙ W.rest (i + k) (omega arith)) ∙ T.keep (i + k)

        go : (j : ℕ) → j < i + len → (j < i) ⊎ (i ≤ j) → get_or h' j 0 ≡ rep (roots_of h₀) j
        go j l (inl a) = K.h_before j a ∙ W.done j a
        go j l (inr a) = let e : j ≡ i + (j - i) = omega arith in ap (λ (x : ℕ). get_or h' x 0) e ∙ at (j - i) (omega arith) ∙ ap (rep (roots_of h₀)) (sym e)

-- by the numbers of the code
module _ (x w g len : ℕ) (h last first : List ℕ) (ew : w ≡ x) (eg : g ≡ get_or h w 0) (el : len ≡ (get_or last x 0 - x + 1) % 65536) where
  link_is : get_or h x 0 ≡ g
  link_is = sym (eg ∙ ap (λ (y : ℕ). get_or h y 0) ew)

  pub settle_fixed : g < 2 → SettlesRun x h last first h last first len
  settle_fixed l shut h₀ last₀ first₀ S eh r₁ r₂ two small W =
      let e = W.runs.ends x two (omega arith) in
      settled_fixed shut h₀ last₀ first₀ S h last first x two (omega arith) W len (omega (arith, e, S.few)) (omega (arith, e, S.few)) (omega (arith, link_is))

  pub settle_root : x ≤ g → SettlesRun x h last first h last first len
  settle_root l shut h₀ last₀ first₀ S eh r₁ r₂ two small W =
      let e = W.runs.ends x two (omega arith) in
      settled_root shut h₀ last₀ first₀ S h last first x two (omega arith) W len (omega (arith, e, S.few)) (omega (arith, e, S.few)) (omega (arith, link_is))

  pub settle_kept : (g < 2) ⊎ ((2 ≤ g) × (x ≤ g)) → SettlesRun x h last first h last first len
  settle_kept (inl l) = settle_fixed l
  settle_kept (inr l) = settle_root l.1

  pub settle_link : (r n m v to : ℕ) (h' last' first' : List ℕ) → 2 ≤ g → g < x → r ≡ (get_or last g 0 - g + 1) % 65536 → n ≡ min r (x - g) → m ≡ min len n → v ≡ g → to ≡ get_or h v 0
      → Carves x m to h last first h' last' first' → SettlesRun x h last first h' last' first' m
  settle_link r n m v to h' last' first' a b er en em ev et C shut h₀ last₀ first₀ S eh r₁ r₂ two small W =
      let e = W.runs.ends x two (omega arith) in
      let f = W.runs.ends g a (omega arith) in
      let goal : get_or h g 0 ≡ to = sym (et ∙ ap (λ (y : ℕ). get_or h y 0) ev) in
      let low : to ≤ 4098 = omega (arith, goal, W.done g b, (stands_roots h₀ S.low).canon.low g, S.few) in
      let R : Runs shut (length h) h last first = subst (λ (y : ℕ). Runs shut y h last first) (sym eh) W.runs in
      settled_link shut h₀ last₀ first₀ S h last first x two (omega arith) W m (omega (arith, e, f, S.few)) (omega (arith, e, f, S.few)) g to link_is a (omega (arith, e, f, S.few)) (omega (arith, e, f, S.few)) goal
      h' last' first' (C shut R (omega (arith, S.few)) r₁ r₂ two small (omega (arith, e, f, S.few)) (omega (arith, e, f, S.few)) (omega (arith, e, f, S.few)))

-- before the first run, and behind the last
pub sweeping_first : (shut : ℕ → Bool) (h last first : List ℕ) → State shut h last first → Sweeping shut h h last first 2
sweeping_first shut h last first S = record {
  runs = S.runs;
  seated = λ s a b l w. absurd (omega arith);
  done = λ j l. go j l;
  rest = λ j l. refl;
}
  where
    T : Stands h (roots_of h)
    T = stands_roots h S.low

    go : (j : ℕ) → j < 2 → get_or h j 0 ≡ rep (roots_of h) j
    go zero l = omega (arith, S.low 0, T.canon.low 0)
    go (suc zero) l = omega (arith, S.low 1, S.one, T.keep 1, T.canon.low (get_or h 1 0))
    go (suc (suc j)) l = absurd (omega arith)

pub sweeping_more : (shut : ℕ → Bool) (h₀ last₀ first₀ h last first : List ℕ) (i : ℕ) → State shut h₀ last₀ first₀ → 2 ≤ i → Sweeping shut h₀ h last first i → length h ≡ length h₀
    → length last ≡ length last₀ → length first ≡ length first₀ → i < length h → (x : ℕ) → x ≡ i % 65536 → (h' last' first' : List ℕ) (m : ℕ) → SettlesRun x h last first h' last' first' m
    → (n w : ℕ) → n ≡ max m 1 → w ≡ n → (2 ≤ i + w) × Sweeping shut h₀ h' last' first' (i + w)
sweeping_more shut h₀ last₀ first₀ h last first i S two W e₀ e₁ e₂ l x ex h' last' first' m P n w en ew =
    let z : x ≡ i = omega (arith, S.few) in
    let Q : SettlesRun i h last first h' last' first' m = subst (λ (y : ℕ). SettlesRun y h last first h' last' first' m) z P in
    let D = Q shut h₀ last₀ first₀ S e₀ (omega (arith, S.last_room)) (omega (arith, S.first_room)) two l W in
    let y : m ≡ w = omega (arith, D.some) in
    (omega arith, subst (λ (v : ℕ). Sweeping shut h₀ h' last' first' (i + v)) y D.sweeping)

pub sweeping_done : (shut : ℕ → Bool) (h₀ last₀ first₀ h last first : List ℕ) (i : ℕ) → State shut h₀ last₀ first₀ → Sweeping shut h₀ h last first i → length h ≡ length h₀ → length h ≤ i
    → Settled shut h₀ h last first
sweeping_done shut h₀ last₀ first₀ h last first i S W e l = record {
  roots = ext_get_or 0 h (roots_of h₀) (e ∙ sym (roots-length h₀ S.low)) (λ j m. W.done j (omega arith));
  runs = W.runs;
  seated = λ s a b m w. W.seated s a b (omega arith) w;
}
