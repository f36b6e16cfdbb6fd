-- What the theorems on the steps of a slice are stated with (proofs/WholeRuns.antt, TiesByRuns.antt).
use Rattle.std.specs.Prelude.{◌≡◌, ◌⊎◌, List, [], ◌∷◌, ℕ, suc, ◌+◌, ◌≤◌, ◌<◌, min, max, get_or}
use Rattle.answers.specs.Pairs.{Pair, ties}
use Rattle.answers.specs.inner.Classes.{rep, run, links, Represents}
use Rattle.classes.specs.inner.Links.{roots_of, pair}
use Rattle.slices.specs.Along.{along, run_pairs}

-- A run ends behind so many sources, counted from a place that has the root of a or of b.
abbrev pub RunEnds : List ℕ → List ℕ → ℕ → ℕ → ℕ → Type 0
RunEnds h last a b len = (x : ℕ) × (2 ≤ x) × ((rep (roots_of h) x ≡ rep (roots_of h) a) ⊎ (rep (roots_of h) x ≡ rep (roots_of h) b)) × (x + len ≡ suc (get_or last x 0))

-- So many sources from the lower of the two roots on reach up to the higher one.
abbrev pub RootsMeet : List ℕ → ℕ → ℕ → ℕ → Type 0
RootsMeet h a b len = min (rep (roots_of h) a) (rep (roots_of h) b) + len ≡ max (rep (roots_of h) a) (rep (roots_of h) b)

-- A run of m pairs is tied: all m of them are counted, from the classes that h holds on; each of them is, behind those before it; and they are m ties by meaning: none
-- is implied by the pairs `seen` that were taken before and by those of the run before it.
pub record TiedRun (h : List ℕ) (a b m : ℕ) : Type 0 where
  pub all : links (roots_of h) (run_pairs a b m) ≡ m
  pub each : (k : ℕ) → k < m → links (run (roots_of h) (run_pairs a b k)) (pair (along a k) (along b k) ∷ []) ≡ 1
  pub by_meaning : (n : ℕ) (seen : List Pair) → Represents n (roots_of h) seen → ties n seen (run_pairs a b m) ≡ m
