-- The first runs: one variable more is one run more.
use mathlib.Core.Path.{◌≡◌, refl, sym, ap, ◌∙◌, subst}
use mathlib.Core.Logic.{◌⊎◌, inl, inr}
use mathlib.Core.Bool.{Bool, false}
use mathlib.Core.List.{List, [], ◌∷◌}
use Prim.Native.Nat.{ℕ, zero, suc, ◌+◌, ◌-◌, ◌≤◌, ◌<◌, min, max}
use native.Mathlib.Omega.{arith}
use lib.ListN.{length, get_or, set, take}
use lib.Seq.{get_or-set_same, get_or-set_other, take-suc, take_all}
use borrow.Author.Tests.{ne_eqb, lt-ltb, le-ltb}
use Rattle.laws.specs.Lists.{count_up}
use Rattle.laws.proofs.Numbers.{lt_or_le}
use Rattle.laws.proofs.CountUp.{count_at}
use Rattle.answers.specs.Answer.{begins}
use Rattle.slices.specs.Along.{along}
use Rattle.slices.specs.Borders.{total, Some, none, some}
use Rattle.slices.proofs.SideBySide.{along_place}
use Rattle.slices.proofs.Cuts.{total_more}
use Rattle.runs.specs.inner.Runs.{Runs}
use Rattle.runs.specs.inner.Puts.{PutsRun}
use Rattle.runs.proofs.Putting.{paced_same}

-- within a variable none begins
begins_within : (ws : List ℕ) (v i : ℕ) → v < length ws → total (take v ws) < i → i < total (take (suc v) ws) → begins ws i ≡ false
unfolding begins total
begins_within [] v i l a b = absurd (omega arith)
begins_within (w ∷ ws) zero i l a b = rw (lt-ltb i w (omega arith), ne_eqb i 0 (omega arith))
begins_within (w ∷ ws) (suc v) i l a b = rw (le-ltb i w (omega arith)) (begins_within ws v (i - w) (omega arith) (omega arith) (omega arith))

some_at : (ws : List ℕ) → Some ws → (v : ℕ) → v < length ws → 1 ≤ get_or ws v 0
some_at ws none v l = absurd (omega arith)
some_at ws (some m k) zero l = m
some_at ws (some {ws = vs} m k) (suc v) l = some_at vs k v (omega arith)

take_most : (ws : List ℕ) (i : ℕ) → total (take i ws) ≤ total ws
unfolding total
take_most [] zero = omega arith
take_most [] (suc i) = omega arith
take_most (w ∷ ws) zero = omega arith
take_most (w ∷ ws) (suc i) = omega (arith, take_most ws i)

-- a run behind those below x
module _ (shut : ℕ → Bool) (h last first last' first' : List ℕ) (x t : ℕ) (R : Runs shut x h last first) (two : 2 ≤ x) (up : x ≤ t)
    (in' : (s : ℕ) → x ≤ s → s ≤ t → get_or last' s 0 ≡ t) (before : (s : ℕ) → s < x → get_or last' s 0 ≡ get_or last s 0)
    (first_at : get_or first' t 0 ≡ x) (first_other : (s : ℕ) → s < x → get_or first' s 0 ≡ get_or first s 0)
    (side-by : (s : ℕ) → 2 ≤ s → s < t → get_or h (suc s) 0 ≡ along (get_or h s 0) 1) (open' : (s : ℕ) → x ≤ s → s < t → shut (suc s) ≡ false) where
  data Part (s : ℕ) : Type 0 where
    low : s < x → get_or last' s 0 ≡ get_or last s 0 → s ≤ get_or last s 0 → get_or last s 0 < x → 2 ≤ get_or first (get_or last s 0) 0 → get_or first (get_or last s 0) 0 ≤ s
        → get_or first' (get_or last s 0) 0 ≡ get_or first (get_or last s 0) 0 → Part s
    new : x ≤ s → get_or last' s 0 ≡ t → Part s

  part : (s : ℕ) → 2 ≤ s → s < suc t → Part s
  part s a b = go (lt_or_le s x)
    where
      go : (s < x) ⊎ (x ≤ s) → Part s
      go (inr l) = new l (in' s l (omega arith))
      go (inl l) =
          let e = R.ends s a l in
          let f = R.starts s a l in
          low l (before s l) e.0 e.1 f.0 f.1 (first_other (get_or last s 0) e.1)

  pub runs_more : Runs shut (suc t) h last' first'
  runs_more = record {
    ends = λ s a b. ends-at s (part s a b) b;
    starts = λ s a b. starts_at s (part s a b) b;
    whole = λ s y a b c d. whole_at s y (part s a b) a b c d;
    side = λ s a b c. side_at s (part s a c) a b c;
    inside = λ s a b c. inside_at s (part s a c) a b c;
  }
    where
      ends-at : (s : ℕ) → Part s → s < suc t → (s ≤ get_or last' s 0) × (get_or last' s 0 < suc t)
      ends-at s (low l e p q u w z) b = (omega arith, omega arith)
      ends-at s (new l e) b = (omega arith, omega arith)

      starts_at : (s : ℕ) → Part s → s < suc t → (2 ≤ get_or first' (get_or last' s 0) 0) × (get_or first' (get_or last' s 0) 0 ≤ s)
      starts_at s (low l e p q u w z) b = rw (e, z) (u, w)
      starts_at s (new l e) b = rw (e, first_at) (two, l)

      whole_at : (s y : ℕ) → Part s → 2 ≤ s → s < suc t → get_or first' (get_or last' s 0) 0 ≤ y → y ≤ get_or last' s 0 → get_or last' y 0 ≡ get_or last' s 0
      whole_at s y (low l e p q u w z) a b c d =
          let y-low : y < x = omega arith in
          before y y-low ∙ R.whole s y a l (omega (arith, rw (e, z) at c)) (omega arith) ∙ sym e
      whole_at s y (new l e) a b c d = in' y (rw (e, first_at) at c) (omega arith) ∙ sym e

      side_at : (s : ℕ) → Part s → 2 ≤ s → s < get_or last' s 0 → s < suc t → get_or h (suc s) 0 ≡ along (get_or h s 0) 1
      side_at s (low l e p q u w z) a b c = side-by s a (omega arith)
      side_at s (new l e) a b c = side-by s a (omega arith)

      inside_at : (s : ℕ) → Part s → 2 ≤ s → s < get_or last' s 0 → s < suc t → shut (suc s) ≡ false
      inside_at s (low l e p q u w z) a b c = R.inside s a (omega arith) l
      inside_at s (new l e) a b c = open' s l (omega arith)

-- v variables are runs, up to source x
pub record Starting (ws : List ℕ) (n : ℕ) (last first : List ℕ) (v x : ℕ) : Type 0 where
  pub among : v ≤ length ws
  pub place : x ≡ total (take v ws) + 2
  pub runs : Runs (λ y. begins ws (y - 2)) x (count_up 0 n) last first

pub starting_first : (ws : List ℕ) (n : ℕ) (last first : List ℕ) → Starting ws n last first 0 2
unfolding total
starting_first ws n last first = record {
  among = omega arith;
  place = refl;
  runs = record {
    ends = λ s a b. absurd (omega arith);
    starts = λ s a b. absurd (omega arith);
    whole = λ s x a b c d. absurd (omega arith);
    side = λ s a b c. absurd (omega arith);
    inside = λ s a b c. absurd (omega arith);
  };
}

module _ (sources : List ℕ) (n : ℕ) (ws : List ℕ) (each : Some ws) (whole : n ≡ total ws + 2) (small : n ≤ 65535) (sources_are : (v : ℕ) → v ≤ length ws → get_or sources v 0 ≡ total (take v ws) + 1) where
  pub starting_more : (last first : List ℕ) (v x : ℕ) → Starting ws n last first v x → x < n → n ≤ length last → n ≤ length first
      → (g lo t a b d : ℕ) (last' first' : List ℕ) → g ≡ get_or sources (v + 1) 0 → lo ≡ min g (n - 1) → t ≡ max x lo → a ≡ x → b ≡ t - x → PutsRun a (b + 1) t 0 last last'
      → d ≡ t → first' ≡ set first d x → Starting ws n last' first' (v + 1) (t + 1)
  starting_more last first v x S l r₁ r₂ g lo t a b d last' first' eg elo et ea eb put ed ef =
      let more : v < length ws = in_list (lt_or_le v (length ws)) in
      let w : ℕ = get_or ws v 0 in
      let one : 1 ≤ w = some_at ws each v more in
      let sum : total (take (suc v) ws) ≡ total (take v ws) + w = ap total (take-suc ws v 0 more) ∙ total_more (take v ws) w in
      let z : v + 1 ≡ suc v = omega arith in
      let gs : g ≡ total (take (suc v) ws) + 1 = eg ∙ ap (λ (i : ℕ). get_or sources i 0) z ∙ sources_are (suc v) more in
      let most : total (take (suc v) ws) ≤ total ws = take_most ws (suc v) in
      let top : t ≡ total (take (suc v) ws) + 1 = omega (arith, S.place) in
      let P = put (omega (arith, S.place)) in
      let y : suc t ≡ t + 1 = omega arith in
      record {
        among = omega arith;
        place = rw z (omega arith);
        runs =
            rw (← y)
            (runs_more (λ i. begins ws (i - 2)) (count_up 0 n) last first last' first' x t S.runs (omega (arith, S.place)) (omega arith)
            (λ s p q. let k : a + (s - x) ≡ s = omega arith in ap (λ (i : ℕ). get_or last' i 0) (sym k) ∙ P.in' (s - x) (omega arith) ∙ paced_same t (s - x) (omega (arith, S.place)))
            (λ s p. P.before s (omega arith))
            (ap (λ (q : List ℕ). get_or q t 0) ef ∙ ap (λ (i : ℕ). get_or (set first d x) i 0) (sym ed) ∙ get_or-set_same first d x 0 (omega (arith, S.place)))
            (λ s p. ap (λ (q : List ℕ). get_or q s 0) ef ∙ get_or-set_other first d s x 0 (omega arith))
            (λ s p q. count_at 0 n (suc s) (omega (arith, S.place)) ∙ omega (arith, ap (λ (i : ℕ). along i 1) (count_at 0 n s (omega (arith, S.place))), along_place (0 + s) 1 (omega arith)))
            (λ s p q. begins_within ws v (suc s - 2) more (omega (arith, S.place)) (omega (arith, S.place))));
      }
    where
      in_list : (v < length ws) ⊎ (length ws ≤ v) → v < length ws
      in_list (inl m) = m
      in_list (inr m) = absurd (omega (arith, S.place, ap total (take_all v ws m)))

  pub starting_done : (last first : List ℕ) (v x : ℕ) → Starting ws n last first v x → x ≤ n → n ≤ x → Runs (λ y. begins ws (y - 2)) n (count_up 0 n) last first
  starting_done last first v x S a b =
      let e : x ≡ n = omega arith in
      subst (λ (y : ℕ). Runs (λ z. begins ws (z - 2)) y (count_up 0 n) last first) e S.runs
