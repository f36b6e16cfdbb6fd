-- Pairs taken in whole runs: what each way of taking them comes to.
use mathlib.Core.Path.{◌≡◌, refl, sym, ap, ap₂, ◌∙◌, subst}
use mathlib.Core.Logic.{◌⊎◌, inl, inr, ◌≢◌}
use mathlib.Core.Bool.{Bool, true, false, cond}
use mathlib.Core.List.{List}
use Prim.Native.Nat.{ℕ, suc, ◌+◌, ◌-◌, ◌%◌, ◌≤◌, ◌<◌, min, max}
use native.Mathlib.Omega.{arith}
use lib.Dec.{eqb, ltb}
use lib.ListN.{length, get_or}
use borrow.Author.Tests.{lt-ltb, le-ltb, eqb-true}
use Rattle.laws.proofs.Numbers.{lt_or_le}
use Rattle.answers.specs.inner.Classes.{rep, run}
use Rattle.classes.specs.inner.Links.{roots_of}
use Rattle.classes.proofs.Links.{Stands, linked_conflict}
use Rattle.classes.proofs.Roots.{stands_roots, roots_are}
use Rattle.slices.specs.Along.{along, run_pairs}
use Rattle.slices.proofs.SideBySide.{along_fixed, along_place, along_none}
use Rattle.runs.specs.inner.Runs.{Runs, Carved}
use Rattle.runs.specs.inner.Carves.{Carves}
use Rattle.runs.specs.inner.Finds.{Stop, whole, ends as run_end, RunFound}
use Rattle.run_pairs.specs.inner.Taken.{State, Same, Shortens, Alike, Left, taken_all, at_end, at_own, RunTaken, TakesRun}
use Rattle.runs.proofs.Carving.{carved_runs}
use Rattle.runs.proofs.Finding.{side_all}
use Rattle.run_pairs.proofs.Joining.{run-joined, run-ties, run_kept, run_moved, run_nothing}
use Rattle.run_pairs.proofs.Relinking.{run_relinked}

-- nothing was changed
pub shorten_none : (x count root : ℕ) (h last first : List ℕ) → Shortens x count root h last first h last first
shorten_none x count root h last first shut S l some roots = record { state = S; same = refl }

-- a run was linked straight to its roots
pub shorten_run : (x count root r len : ℕ) (h last first h' last' first' : List ℕ) → root < x → r ≡ (get_or last x 0 - x + 1) % 65536 → len ≡ min count r
    → Carves x len root h last first h' last' first' → length h' ≡ length h → length last' ≡ length last → length first' ≡ length first
    → Shortens x count root h last first h' last' first'
shorten_run x count root r len h last first h' last' first' lower er el C eh e₁ e₂ shut S small some roots =
    record {
      state = record {
        runs = subst (λ (n : ℕ). Runs shut n h' last' first') (sym eh) (carved_runs shut (length h) h last first S.runs x len root h' last' first' K two small long fits);
        low = T.low;
        few = omega (arith, eh, S.few);
        last_room = omega (arith, eh, e₁, S.last_room);
        first_room = omega (arith, eh, e₂, S.first_room);
        one = ap (λ (c : List ℕ). rep c 1) same ∙ S.one;
      };
      same = same;
    }
  where
    two : 2 ≤ x
    two = go (lt_or_le x 2)
      where
        go : (x < 2) ⊎ (2 ≤ x) → 2 ≤ x
        go (inr a) = a
        go (inl a) =
            let z : x ≡ 1 = omega arith in
            absurd (omega (arith, ap (rep (roots_of h)) z, S.one, sym (ap (rep (roots_of h)) (along_none x)) ∙ roots 0 (omega arith) ∙ along_none root))

    ends : (x ≤ get_or last x 0) × (get_or last x 0 < length h)
    ends = S.runs.ends x two small

    long : 1 ≤ len
    long = omega (arith, ends, S.few)

    fits : x + len ≤ suc (get_or last x 0)
    fits = omega (arith, ends, S.few)

    K : Carved x len root h last first h' last' first'
    K = C shut S.runs (omega (arith, S.few)) S.last_room S.first_room two small long fits (omega (arith, S.few, ends))

    lower_all : (k : ℕ) → k < len → along root k < x + k
    lower_all k l = go (lt_or_le root 2)
      where
        go : (root < 2) ⊎ (2 ≤ root) → along root k < x + k
        go (inl a) = omega (arith, along_fixed root k a)
        go (inr a) = omega (arith, along_place root k a)

    T : Stands h' (roots_of h)
    T = run_relinked h h' x len root eh K.h_in K.h_before K.h_behind (roots_of h) (stands_roots h S.low)
        (λ k l. ap (rep (roots_of h)) (sym (along_place x k two)) ∙ roots k (omega arith)) lower_all

    same : roots_of h' ≡ roots_of h
    same = roots_are h' T.low (roots_of h) T

own_sum : (len lb hi lo : ℕ) → len ≡ min lb (hi - lo) → hi - lo ≤ lb → lo < hi → lo + len ≡ hi
own_sum len lb hi lo e l h = omega arith

-- the higher and the lower of two sources, and of those k bits on
lower_along : (x y k : ℕ) → x < y → 2 ≤ y → (along y k ≡ y + k) × (along x k < along y k)
lower_along x y k l two = (along_place y k two, go (lt_or_le x 2))
  where
    go : (x < 2) ⊎ (2 ≤ x) → along x k < along y k
    go (inl i) = omega (arith, along_fixed x k i, along_place y k two)
    go (inr i) = omega (arith, along_place x k i, along_place y k two)

ordered : (p q : ℕ) → p < q → (max p q ≡ q) × (min p q ≡ p) × (max q p ≡ q) × (min q p ≡ p)
ordered p q l = (omega arith, omega arith, omega arith, omega arith)

both_along : (x y k hi lo : ℕ) → hi ≡ max x y → lo ≡ min x y → lo < hi → 2 ≤ hi → (max (along x k) (along y k) ≡ hi + k) × (min (along x k) (along y k) ≡ along lo k)
both_along x y k hi lo eh el l two = go (lt_or_le x y)
  where
    go : (x < y) ⊎ (y ≤ x) → (max (along x k) (along y k) ≡ hi + k) × (min (along x k) (along y k) ≡ along lo k)
    go (inl i) =
        let z : hi ≡ y = omega arith in
        let u : lo ≡ x = omega arith in
        let s = lower_along x y k i (omega arith) in
        let o = ordered (along x k) (along y k) s.1 in
        (o.0 ∙ s.0 ∙ ap (λ (v : ℕ). v + k) (sym z), o.1 ∙ ap (λ (v : ℕ). along v k) (sym u))
    go (inr i) =
        let z : hi ≡ x = omega arith in
        let u : lo ≡ y = omega arith in
        let s = lower_along y x k (omega arith) (omega arith) in
        let o = ordered (along y k) (along x k) s.1 in
        (o.2 ∙ s.0 ∙ ap (λ (v : ℕ). v + k) (sym z), o.3 ∙ ap (λ (v : ℕ). along v k) (sym u))

-- two runs whose roots were found
module _ (shut : ℕ → Bool) (h last first : List ℕ) (S : State shut h last first) (a b count ra la rb lb : ℕ) (F : RunFound h last a count ra la) (G : RunFound h last b la rb lb)
    (a_small : a < length h) (b_small : b < length h) (hi lo : ℕ) (eh : hi ≡ max ra rb) (el : lo ≡ min ra rb) where
  abbrev c : List ℕ
  c = roots_of h

  roots_a : (k : ℕ) → k < lb → rep (roots_of h) (along a k) ≡ along ra k
  roots_a k l = F.roots k (omega (arith, G.most))

  roots_b : (k : ℕ) → k < lb → rep (roots_of h) (along b k) ≡ along rb k
  roots_b k l = G.roots k l

  root_a : rep (roots_of h) a ≡ ra
  root_a = sym (ap (rep c) (along_none a)) ∙ roots_a 0 (omega (arith, G.some)) ∙ along_none ra

  root_b : rep (roots_of h) b ≡ rb
  root_b = sym (ap (rep c) (along_none b)) ∙ roots_b 0 (omega (arith, G.some)) ∙ along_none rb

  -- where the shorter of the two searches stopped
  stopped : Left h last a b count lb
  stopped = go F.stops G.stops
    where
      go : Stop h last a count la → Stop h last b la lb → Left h last a b count lb
      go f (run_end x p q r) = at_end x p (inr q) r
      go (run_end x p q r) (whole z) = at_end x p (inl q) (omega arith)
      go (whole y) (whole z) = taken_all (z ∙ y)

  -- the same roots: the pairs say nothing
  module _ (same : lo ≡ hi) where
    pub nothing_a : (k : ℕ) → k < lb → rep (roots_of h) (along a k) ≡ along lo k
    nothing_a k l = let e : ra ≡ lo = omega arith in roots_a k l ∙ ap (λ (x : ℕ). along x k) e

    pub nothing_b : (k : ℕ) → k < lb → rep (roots_of h) (along b k) ≡ along lo k
    nothing_b k l = let e : rb ≡ lo = omega arith in roots_b k l ∙ ap (λ (x : ℕ). along x k) e

    pub taken_nothing : (h₁ last₁ first₁ h₂ last₂ first₂ : List ℕ) → Shortens a lb lo h last first h₁ last₁ first₁ → Shortens b lb lo h₁ last₁ first₁ h₂ last₂ first₂
        → length h₁ ≡ length h → RunTaken shut a b count h last h₂ last₂ first₂ 0 lb
    taken_nothing h₁ last₁ first₁ h₂ last₂ first₂ P Q e₁ =
        let A : Same shut h h₁ last₁ first₁ = P shut S a_small G.some nothing_a in
        let B : Same shut h₁ h₂ last₂ first₂ = Q shut A.state (omega (arith, e₁)) G.some (λ k l. ap (λ (d : List ℕ). rep d (along b k)) A.same ∙ nothing_b k l) in
        let n = run_nothing (roots_of h) a b lb (λ k l. nothing_a k l ∙ sym (nothing_b k l)) in
        record {
          some = G.some;
          most = omega (arith, F.most, G.most);
          left = λ z. stopped;
          state = λ z. B.state;
          next = λ z. B.same ∙ A.same ∙ sym n.0;
          ties = λ z. n.1;
          clash = λ z. absurd (omega (arith, z));
        }

  -- two different fixed bits
  pub taken_clash : lo ≢ hi → hi ≡ 1 → RunTaken shut a b count h last h last first 2 lb
  taken_clash d e =
      record {
        some = G.some;
        most = omega (arith, F.most, G.most);
        left = λ z. absurd (z refl);
        state = λ z. absurd (z refl);
        next = λ z. absurd (z refl);
        ties = λ z. absurd (z refl);
        clash = λ z. linked_conflict (rep (roots_of h) a) (rep (roots_of h) b) (omega (arith, root_a, root_b)) (omega (arith, root_a, root_b));
      }

  -- ties
  module _ (d : lo ≢ hi) (e : hi ≢ 1) (len : ℕ) (en : len ≡ cond (ltb lo 2) lb (min lb (hi - lo))) (h₁ last₁ first₁ : List ℕ) (C : Carves hi len lo h last first h₁ last₁ first₁)
      (l₀ : length h₁ ≡ length h) (l₁ : length last₁ ≡ length last) (l₂ : length first₁ ≡ length first) where
    data Far : Type 0 where
      fixed : lo < 2 → len ≡ lb → Far
      placed : 2 ≤ lo → len ≡ min lb (hi - lo) → Far

    far : Far
    far = go (lt_or_le lo 2)
      where
        go : (lo < 2) ⊎ (2 ≤ lo) → Far
        go (inl i) = fixed i (en ∙ ap (λ (t : Bool). cond t lb (min lb (hi - lo))) (lt-ltb lo 2 i))
        go (inr i) = placed i (en ∙ ap (λ (t : Bool). cond t lb (min lb (hi - lo))) (le-ltb lo 2 i))

    higher : lo < hi
    higher = omega arith

    place : 2 ≤ hi
    place = omega arith

    long : 1 ≤ len
    long = go far
      where
        go : Far → 1 ≤ len
        go (fixed i z) = omega (arith, G.some)
        go (placed i z) = omega (arith, G.some)

    few : len ≤ lb
    few = go far
      where
        go : Far → len ≤ lb
        go (fixed i z) = omega arith
        go (placed i z) = omega arith

    apart' : (lo < 2) ⊎ (lo + len ≤ hi)
    apart' = go far
      where
        go : Far → (lo < 2) ⊎ (lo + len ≤ hi)
        go (fixed i z) = inl i
        go (placed i z) = inr (omega arith)

    -- the higher root is one of the two, and its run is long enough
    top_fits : hi + len ≤ suc (get_or last hi 0)
    top_fits = go (lt_or_le ra rb)
      where
        go : (ra < rb) ⊎ (rb ≤ ra) → hi + len ≤ suc (get_or last hi 0)
        go (inl i) = let z : hi ≡ rb = omega arith in omega (arith, ap (λ (x : ℕ). get_or last x 0) z, G.fits (omega arith), few)
        go (inr i) = let z : hi ≡ ra = omega arith in omega (arith, ap (λ (x : ℕ). get_or last x 0) z, F.fits (omega arith), few, G.most)

    small : hi < length h
    small = go (lt_or_le ra rb)
      where
        go : (ra < rb) ⊎ (rb ≤ ra) → hi < length h
        go (inl i) = omega (arith, G.low)
        go (inr i) = omega (arith, F.low)

    ends : (hi ≤ get_or last hi 0) × (get_or last hi 0 < length h)
    ends = S.runs.ends hi place small

    K : Carved hi len lo h last first h₁ last₁ first₁
    K = C shut S.runs (omega (arith, S.few)) S.last_room S.first_room place small long top_fits (omega (arith, ends, S.few, top_fits))

    sums : (k : ℕ) → k < len → (max (rep (roots_of h) (along a k)) (rep (roots_of h) (along b k)) ≡ hi + k) × (min (rep (roots_of h) (along a k)) (rep (roots_of h) (along b k)) ≡ along lo k)
    sums k l =
        let A : rep (roots_of h) (along a k) ≡ along ra k = roots_a k (omega (arith, few)) in
        let B : rep (roots_of h) (along b k) ≡ along rb k = roots_b k (omega (arith, few)) in
        let s = both_along ra rb k hi lo eh el higher place in
        (ap₂ max A B ∙ s.0, ap₂ min A B ∙ s.1)

    stands : Stands h (roots_of h)
    stands = stands_roots h S.low

    room : hi + len ≤ length h
    room = omega (arith, ends, top_fits)

    T : Stands h₁ (run (roots_of h) (run_pairs a b len))
    T = run-joined h (roots_of h) stands a b hi lo len higher room apart' place (λ k l. (sums k l).0) (λ k l. (sums k l).1) h₁ l₀ K.h_in K.h_before K.h_behind

    joined : roots_of h₁ ≡ run (roots_of h) (run_pairs a b len)
    joined = roots_are h₁ T.low (run (roots_of h) (run_pairs a b len)) T

    after : State shut h₁ last₁ first₁
    after =
        record {
          runs = subst (λ (n : ℕ). Runs shut n h₁ last₁ first₁) (sym l₀) (carved_runs shut (length h) h last first S.runs hi len lo h₁ last₁ first₁ K place small long top_fits);
          low = T.low;
          few = omega (arith, l₀, S.few);
          last_room = omega (arith, l₀, l₁, S.last_room);
          first_room = omega (arith, l₀, l₂, S.first_room);
          one = ap (λ (d : List ℕ). rep d 1) joined
              ∙ run_kept h (roots_of h) stands a b hi lo len higher room apart' place (λ k l. (sums k l).0) (λ k l. (sums k l).1) h₁ l₀ K.h_in K.h_before K.h_behind 1 (omega (arith, S.one))
              ∙ S.one;
        }

    -- both runs have the lower roots now
    now_low : (x : ℕ) (k : ℕ) → k < len → (rep (roots_of h) x ≡ hi + k) ⊎ (rep (roots_of h) x ≡ along lo k) → rep (roots_of h₁) x ≡ along lo k
    now_low x k l (inl z) = ap (λ (v : List ℕ). rep v x) joined
        ∙ run_moved h (roots_of h) stands a b hi lo len higher room apart' place (λ k l. (sums k l).0) (λ k l. (sums k l).1) h₁ l₀ K.h_in K.h_before K.h_behind x k l z
    now_low x k l (inr z) = ap (λ (v : List ℕ). rep v x) joined
        ∙ run_kept h (roots_of h) stands a b hi lo len higher room apart' place (λ k l. (sums k l).0) (λ k l. (sums k l).1) h₁ l₀ K.h_in K.h_before K.h_behind x (omega (arith, z, under (lt_or_le lo 2)))
        ∙ z
      where
        under : (lo < 2) ⊎ (2 ≤ lo) → along lo k < hi
        under (inl i) = omega (arith, along_fixed lo k i)
        under (inr i) = go apart'
          where
            go : (lo < 2) ⊎ (lo + len ≤ hi) → along lo k < hi
            go (inl j) = absurd (omega arith)
            go (inr j) = omega (arith, along_place lo k i)

    either : (k : ℕ) → k < len → ((rep (roots_of h) (along a k) ≡ hi + k) × (rep (roots_of h) (along b k) ≡ along lo k)) ⊎ ((rep (roots_of h) (along a k) ≡ along lo k) × (rep (roots_of h) (along b k) ≡ hi + k))
    either k l = go (lt_or_le (rep (roots_of h) (along a k)) (rep (roots_of h) (along b k)))
      where
        go : (rep (roots_of h) (along a k) < rep (roots_of h) (along b k)) ⊎ (rep (roots_of h) (along b k) ≤ rep (roots_of h) (along a k))
            → ((rep (roots_of h) (along a k) ≡ hi + k) × (rep (roots_of h) (along b k) ≡ along lo k)) ⊎ ((rep (roots_of h) (along a k) ≡ along lo k) × (rep (roots_of h) (along b k) ≡ hi + k))
        go (inl i) = inr (omega (arith, sums k l))
        go (inr i) = inl (omega (arith, sums k l))

    low_a : (k : ℕ) → k < len → rep (roots_of h₁) (along a k) ≡ along lo k
    low_a k l = go (either k l)
      where
        go : ((rep (roots_of h) (along a k) ≡ hi + k) × (rep (roots_of h) (along b k) ≡ along lo k)) ⊎ ((rep (roots_of h) (along a k) ≡ along lo k) × (rep (roots_of h) (along b k) ≡ hi + k)) → rep (roots_of h₁) (along a k) ≡ along lo k
        go (inl z) = now_low (along a k) k l (inl z.0)
        go (inr z) = now_low (along a k) k l (inr z.0)

    low_b : (k : ℕ) → k < len → rep (roots_of h₁) (along b k) ≡ along lo k
    low_b k l = go (either k l)
      where
        go : ((rep (roots_of h) (along a k) ≡ hi + k) × (rep (roots_of h) (along b k) ≡ along lo k)) ⊎ ((rep (roots_of h) (along a k) ≡ along lo k) × (rep (roots_of h) (along b k) ≡ hi + k)) → rep (roots_of h₁) (along b k) ≡ along lo k
        go (inl z) = now_low (along b k) k l (inr z.1)
        go (inr z) = now_low (along b k) k l (inl z.1)

    tied_left : Far → (lb < hi - lo) ⊎ (hi - lo ≤ lb) → Left h last a b count lb → Left h last a b count len
    tied_left (placed i z) (inr j) q =
        at_own (ap₂ (λ (x y : ℕ). min x y + len) root_a root_b ∙ ap (λ (x : ℕ). x + len) (sym el) ∙ own_sum len lb hi lo z j higher ∙ eh ∙ sym (ap₂ max root_a root_b))
    tied_left (placed i z) (inl j) q = let e : lb ≡ len = omega arith in subst (Left h last a b count) e q
    tied_left (fixed i z) j q = subst (Left h last a b count) (sym z) q

    pub taken_tie : (h₂ last₂ first₂ h₃ last₃ first₃ : List ℕ) → Shortens a len lo h₁ last₁ first₁ h₂ last₂ first₂ → Shortens b len lo h₂ last₂ first₂ h₃ last₃ first₃
        → length h₂ ≡ length h₁ → RunTaken shut a b count h last h₃ last₃ first₃ 1 len
    taken_tie h₂ last₂ first₂ h₃ last₃ first₃ P Q e₂ =
        let A : Same shut h₁ h₂ last₂ first₂ = P shut after (omega (arith, l₀)) long low_a in
        let B : Same shut h₂ h₃ last₃ first₃ = Q shut A.state (omega (arith, e₂, l₀)) long (λ k l. ap (λ (v : List ℕ). rep v (along b k)) A.same ∙ low_b k l) in
        record {
          some = long;
          most = omega (arith, F.most, G.most, few);
          left = λ z. tied_left far (lt_or_le lb (hi - lo)) stopped;
          state = λ z. B.state;
          next = λ z. B.same ∙ A.same ∙ joined;
          ties = λ z. run-ties h (roots_of h) stands a b hi lo len higher room apart' place (λ k l. (sums k l).0) (λ k l. (sums k l).1) h₁ l₀ K.h_in K.h_before K.h_behind;
          clash = λ z. absurd (omega (arith, z));
        }

-- two places that link to the same source, and those behind them
pub taken_alike : (a b count ra rb m len : ℕ) (h last first : List ℕ) → Alike h a b → ra ≡ (get_or last a 0 - a + 1) % 65536 → rb ≡ (get_or last b 0 - b + 1) % 65536 → m ≡ min ra rb
    → len ≡ min count m → TakesRun a b count h last first h last first 0 len
taken_alike a b count ra rb m len h last first A ea eb em en shut S a_small b_small some =
    let x = S.runs.ends a A.left a_small in
    let y = S.runs.ends b A.right b_small in
    let T : Stands h (roots_of h) = stands_roots h S.low in
    let at : (s : ℕ) → 2 ≤ s → s < length h → (k : ℕ) → s + k ≤ get_or last s 0 → rep (roots_of h) (along s k) ≡ rep (roots_of h) (along (get_or h s 0) k) =
    λ s two small k l. ap (rep (roots_of h)) (along_place s k two) ∙ sym (T.keep (s + k)) ∙ ap (rep (roots_of h)) (side_all shut (length h) h last first S.runs s k two small l) in
    let n = run_nothing (roots_of h) a b len (λ k l.
    at a A.left a_small k (omega (arith, x, S.few)) ∙ ap (λ (g : ℕ). rep (roots_of h) (along g k)) A.same ∙ sym (at b A.right b_small k (omega (arith, y, S.few)))) in
    record {
      some = omega (arith, x, y, S.few);
      most = omega arith;
      left = λ z. far (lt_or_le m count) (lt_or_le ra rb);
      state = λ z. S;
      next = λ z. sym n.0;
      ties = λ z. n.1;
      clash = λ z. absurd (omega (arith, z));
    }
  where
    far : (m < count) ⊎ (count ≤ m) → (ra < rb) ⊎ (rb ≤ ra) → Left h last a b count len
    far (inr i) j = taken_all (omega arith)
    far (inl i) (inl j) = at_end a A.left (inl refl) (omega (arith, S.runs.ends a A.left a_small, S.few))
    far (inl i) (inr j) = at_end b A.right (inr refl) (omega (arith, S.runs.ends b A.right b_small, S.few))

-- what the test of two links tells
pub alike-not : {A : Type 0} → false ≡ true → A
alike-not z = let w : ◌≡◌ {A = ℕ} 0 1 = cc in absurd (omega arith)

pub alike_told : (a b m x y p q : ℕ) (h : List ℕ) → m ≡ min a b → 2 ≤ m → x ≡ a → p ≡ get_or h x 0 → y ≡ b → q ≡ get_or h y 0 → eqb p q ≡ true → Alike h a b
alike_told a b m x y p q h em l ex ep ey eq e =
    record {
      left = omega arith;
      right = omega arith;
      same = ap (λ (i : ℕ). get_or h i 0) (sym ex) ∙ sym ep ∙ eqb-true p q e ∙ eq ∙ ap (λ (i : ℕ). get_or h i 0) ey;
    }
