-- Roots found run by run: as far as every run on the way goes, the sources behind have the roots behind.
use mathlib.Core.Path.{◌≡◌, refl, sym, ap, ◌∙◌}
use mathlib.Core.Logic.{◌⊎◌, inl, inr}
use mathlib.Core.Bool.{Bool}
use mathlib.Core.List.{List}
use Prim.Native.Nat.{ℕ, zero, suc, ◌+◌, ◌-◌, ◌%◌, ◌≤◌, ◌<◌, min}
use native.Mathlib.Omega.{arith}
use lib.ListN.{length, get_or}
use Rattle.laws.proofs.Numbers.{lt_or_le}
use Rattle.answers.specs.inner.Classes.{rep}
use Rattle.classes.specs.inner.Links.{Low, roots_of}
use Rattle.classes.proofs.Links.{Stands}
use Rattle.classes.proofs.Roots.{stands_roots}
use Rattle.slices.specs.Along.{along}
use Rattle.slices.proofs.SideBySide.{along_fixed, along_place, along_more, along_none}
use Rattle.runs.specs.inner.Runs.{Runs}
use Rattle.runs.specs.inner.Finds.{Stop, whole, ends, RunFound}

module _ (shut : ℕ → Bool) (n : ℕ) (h last first : List ℕ) (R : Runs shut n h last first) where
  -- a run from any of its sources on
  run_last : (s k : ℕ) → 2 ≤ s → s < n → s + k ≤ get_or last s 0 → get_or last (s + k) 0 ≡ get_or last s 0
  run_last s k a b l = R.whole s (s + k) a b (omega (arith, R.starts s a b)) l

  pub side_all : (s k : ℕ) → 2 ≤ s → s < n → s + k ≤ get_or last s 0 → get_or h (s + k) 0 ≡ along (get_or h s 0) k
  side_all s zero a b l =
      let e : s + 0 ≡ s = omega arith in
      ap (λ (x : ℕ). get_or h x 0) e ∙ sym (along_none (get_or h s 0))
  side_all s (suc k) a b l =
      let e : s + suc k ≡ suc (s + k) = omega arith in
      let i : k + 1 ≡ suc k = omega arith in
      ap (λ (x : ℕ). get_or h x 0) e
      ∙ R.side (s + k) (omega arith) (omega (arith, run_last s k a b (omega arith))) (omega (arith, R.ends s a b))
      ∙ ap (λ (x : ℕ). along x 1) (side_all s k a b (omega arith))
      ∙ along_more (get_or h s 0) k 1 ∙ ap (along (get_or h s 0)) i

  module _ (low : Low h) where
    abbrev c : List ℕ
    c = roots_of h

    stands : Stands h (roots_of h)
    stands = stands_roots h low

    -- a link followed
    pub reach_link : (s x len len' : ℕ) → 2 ≤ x → x < n → len' ≤ len → x + len' ≤ suc (get_or last x 0)
        → ((k : ℕ) → k < len → rep (roots_of h) (along s k) ≡ rep (roots_of h) (along x k))
        → (k : ℕ) → k < len' → rep (roots_of h) (along s k) ≡ rep (roots_of h) (along (get_or h x 0) k)
    reach_link s x len len' a b l m same k i =
        same k (omega arith) ∙ ap (rep c) (along_place x k a) ∙ sym (stands.keep (x + k)) ∙ ap (rep c) (side_all x k a b (omega arith))

    -- a root, and those behind it
    pub reach_root : (s x len len' : ℕ) → 2 ≤ x → x < n → len' ≤ len → x + len' ≤ suc (get_or last x 0) → get_or h x 0 ≡ x
        → ((k : ℕ) → k < len → rep (roots_of h) (along s k) ≡ rep (roots_of h) (along x k))
        → (k : ℕ) → k < len' → rep (roots_of h) (along s k) ≡ along x k
    reach_root s x len len' a b l m e same k i =
        let o : get_or h (x + k) 0 ≡ x + k = side_all x k a b (omega arith) ∙ ap (λ (y : ℕ). along y k) e ∙ along_place x k a in
        same k (omega arith) ∙ ap (rep c) (along_place x k a) ∙ stands.top (x + k) o ∙ sym (along_place x k a)

    -- a fixed bit
    pub reach_fixed : (s x len : ℕ) → x < 2 → rep (roots_of h) 1 ≡ 1
        → ((k : ℕ) → k < len → rep (roots_of h) (along s k) ≡ rep (roots_of h) (along x k))
        → (k : ℕ) → k < len → rep (roots_of h) (along s k) ≡ along x k
    reach_fixed s x len l one same k i = same k i ∙ ap (rep c) (along_fixed x k l) ∙ fixed x l ∙ sym (along_fixed x k l)
      where
        fixed : (y : ℕ) → y < 2 → rep c y ≡ y
        fixed zero m = omega (arith, stands.canon.low 0)
        fixed (suc zero) m = one
        fixed (suc (suc y)) m = absurd (omega arith)

-- a search on its way: it stands at x, and the len sources from s on are of the classes of those from x on
pub record Searching (h last : List ℕ) (s count x len : ℕ) : Type 0 where
  pub some : 1 ≤ len
  pub most : len ≤ count
  pub low : x ≤ s
  pub same : (k : ℕ) → k < len → rep (roots_of h) (along s k) ≡ rep (roots_of h) (along x k)
  pub stops : Stop h last s count len

pub search_first : (h last : List ℕ) (s count : ℕ) → 1 ≤ count → Searching h last s count s count
search_first h last s count l = record { some = l; most = omega arith; low = omega arith; same = λ k i. refl; stops = whole refl }

module _ (shut : ℕ → Bool) (h last first : List ℕ) (R : Runs shut (length h) h last first) (low : Low h) (few : length h ≤ 65535) (s count x len : ℕ) (small : s < length h)
    (S : Searching h last s count x len) where
  pub search_fixed : rep (roots_of h) 1 ≡ 1 → x < 2 → RunFound h last s count x len
  search_fixed one l = record {
    some = S.some;
    most = S.most;
    low = S.low;
    roots = reach_fixed shut (length h) h last first R low s x len l one S.same;
    fits = λ m. absurd (omega arith);
    stops = S.stops;
  }

  module _ (place : 2 ≤ x) (r len' : ℕ) (er : r ≡ (get_or last x 0 - x + 1) % 65536) (el : len' ≡ min len r) (w g : ℕ) (ew : w ≡ x) (eg : g ≡ get_or h w 0) where
    inside : x < length h
    inside = omega (arith, S.low)

    rest_is : x + r ≡ suc (get_or last x 0)
    rest_is = omega (arith, R.ends x place inside)

    link_is : g ≡ get_or h x 0
    link_is = eg ∙ ap (λ (y : ℕ). get_or h y 0) ew

    -- the search stops where it stopped before, or at the end of this run
    stops_here : Stop h last s count len'
    stops_here = go (lt_or_le r len)
      where
        old : Stop h last s count len → len' ≡ len → Stop h last s count len'
        old (whole e) z = whole (z ∙ e)
        old (ends y a b c) z = ends y a b (omega arith)

        go : (r < len) ⊎ (len ≤ r) → Stop h last s count len'
        go (inl l) =
            ends x place
            (sym (sym (ap (rep (roots_of h)) (along_none s)) ∙ S.same 0 (omega (arith, S.some)) ∙ ap (rep (roots_of h)) (along_none x))) (omega (arith, rest_is))
        go (inr l) = old S.stops (omega arith)

    pub search_more : g < x → Searching h last s count g len'
    search_more l = record {
      some = omega (arith, S.some, rest_is, R.ends x place inside);
      most = omega (arith, S.most);
      low = omega (arith, S.low);
      same = λ k i. reach_link shut (length h) h last first R low s x len len' place inside (omega arith) (omega (arith, rest_is)) S.same k i
          ∙ ap (λ (y : ℕ). rep (roots_of h) (along y k)) (sym link_is);
      stops = stops_here;
    }

    pub search_root : x ≤ g → RunFound h last s count x len'
    search_root l = record {
      some = omega (arith, S.some, rest_is, R.ends x place inside);
      most = omega (arith, S.most);
      low = S.low;
      roots = reach_root shut (length h) h last first R low s x len len' place inside (omega arith) (omega (arith, rest_is)) (omega (arith, link_is, low x)) S.same;
      fits = λ m. omega (arith, rest_is);
      stops = stops_here;
    }
