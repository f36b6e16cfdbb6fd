-- What the functions that take equations in whole pieces promise.
use Rattle.std.specs.Prelude.{◌≡◌, Bool, true, false, List, ℕ, suc, ◌≤◌, ◌<◌, length}
use Rattle.terms.specs.Table.{rows_of, row_at, bits_of}
use Rattle.answers.specs.Pairs.{Pair, pairs_of}
use Rattle.answers.specs.inner.Classes.{rep, run, links}
use Rattle.classes.specs.inner.Links.{roots_of}
use Rattle.sides.specs.inner.Sides.{Prepared}
use Rattle.taking.specs.inner.Equations.{Holding, TakesEquations}
use Rattle.slices.specs.Along.{along}
use Rattle.slices.specs.Cut.{spelled_pairs}
use Rattle.slicer.specs.inner.Cutting.{slice_at, slices_in}
use Rattle.run_pairs.specs.inner.Taken.{State}

-- Pairs were taken in runs, or two different fixed bits met.
pub record PairsTaken (shut : ℕ → Bool) (qs : List Pair) (h h' last' first' : List ℕ) (conflict : Bool) (ties : ℕ) : Type 0 where
  pub state : conflict ≡ false → State shut h' last' first'
  pub next : conflict ≡ false → roots_of h' ≡ run (roots_of h) qs
  pub counted : conflict ≡ false → ties ≡ links (roots_of h) qs
  pub clash : conflict ≡ true → rep (run (roots_of h) qs) 1 ≡ 0

-- The pairs that n slices of a cut spell, where the slices' sources are there.
abbrev pub TakesSlices : List ℕ → ℕ → List ℕ → List ℕ → List ℕ → List ℕ → List ℕ → List ℕ → Bool → ℕ → Type 0
TakesSlices cuts n h last first h' last' first' conflict ties =
    (shut : ℕ → Bool) → State shut h last first → n ≤ 1024
    → ((i : ℕ) → i < n → (j : ℕ) → j < (slice_at cuts i).width → along (slice_at cuts i).left j < length h)
    → ((i : ℕ) → i < n → (j : ℕ) → j < (slice_at cuts i).width → along (slice_at cuts i).right j < length h)
    → PairsTaken shut (spelled_pairs (slices_in cuts n)) h h' last' first' conflict ties

-- The bit pairs of equation r.
abbrev pub TakesEquation : List ℕ → List ℕ → List ℕ → List ℕ → ℕ → ℕ → ℕ → ℕ → List ℕ → List ℕ → List ℕ → List ℕ → List ℕ → List ℕ → Bool → ℕ → Type 0
TakesEquation table widths variables lows r leftRoom rightRoom cutRoom h last first h' last' first' conflict ties =
    Prepared table widths variables lows → r < length (rows_of table) → (row_at (rows_of table) r).kind ≡ 4 → 4096 ≤ leftRoom → 4096 ≤ rightRoom → 3072 ≤ cutRoom
    → (shut : ℕ → Bool) → State shut h last first → length h ≡ suc (suc (bits_of (rows_of table)))
    → PairsTaken shut (pairs_of (rows_of table) (row_at (rows_of table) r)) h h' last' first' conflict ties

-- The equations below row `to`, from classes in runs: what crate taking promises of them.
abbrev pub TakesInRuns : List ℕ → List ℕ → List ℕ → List ℕ → ℕ → ℕ → ℕ → ℕ → List ℕ → List ℕ → List ℕ → List ℕ → ℕ → ℕ → Type 0
TakesInRuns table widths variables lows to leftRoom rightRoom cutRoom h last first h' row ties =
    3072 ≤ cutRoom → (shut : ℕ → Bool) → State shut h last first → TakesEquations table widths variables lows 0 to leftRoom rightRoom h h' row ties

-- And where no conflict was met, the classes are in runs still.
abbrev pub KeepsRuns : List ℕ → List ℕ → List ℕ → List ℕ → ℕ → ℕ → ℕ → ℕ → List ℕ → List ℕ → List ℕ → List ℕ → List ℕ → List ℕ → ℕ → Type 0
KeepsRuns table widths variables lows to leftRoom rightRoom cutRoom h last first h' last' first' row =
    3072 ≤ cutRoom → (shut : ℕ → Bool) → State shut h last first → Prepared table widths variables lows → 4096 ≤ leftRoom → 4096 ≤ rightRoom → to ≤ length (rows_of table)
    → Holding (rows_of table) h → row ≡ to → State shut h' last' first'
