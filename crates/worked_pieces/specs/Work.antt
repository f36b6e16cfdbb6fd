-- A table worked in whole pieces, and what it means that it is: for tables with one equation.
use Rattle.std.specs.Prelude.{◌≡◌, Bool, List, [], ◌∷◌, ℕ, suc, ◌-◌, length}
use Rattle.laws.specs.Lists.{count_up}
use Rattle.terms.specs.declared.Record.{Record}
use Rattle.terms.specs.declared.Row.{Row}
use Rattle.terms.specs.Table.{rows_of, row_at, bits_of}
use Rattle.answers.specs.Pairs.{equation_pairs}
use Rattle.answers.specs.Answer.{variable_widths, begins}
use Rattle.taking.specs.inner.Equations.{EquationsTaken}
use Rattle.slices.specs.Along.{along}
use Rattle.slices.specs.Cut.{Slice, FirstCut}
use Rattle.slicer.specs.inner.Cutting.{slices_in, SidesCut}
use Rattle.runs.specs.inner.Runs.{Seated}
use Rattle.run_pairs.specs.inner.Taken.{State, RunTaken}
use Rattle.run_sweep.specs.inner.Settled.{SettlesRuns}
use Rattle.worked.specs.Cases.{Solved, Holds}

-- Links, and the runs beside them: `last` has for each source the last one of its run, and `first` at that one the first.
pub record Held : Type 0 where
  pub links : List ℕ
  pub last : List ℕ
  pub first : List ℕ

-- A step: what its pairs say (0 nothing, 1 ties), how many they are, and what is held behind it.
pub record Step : Type 0 where
  pub what : ℕ
  pub pairs : ℕ
  pub on : Held

abbrev pub slice : ℕ → ℕ → ℕ → Slice
slice left right width = record { left = left; right = right; width = width }

-- Slices are taken in steps, each as `take_run` promises, from what is held at first to what is held behind them.
pub data Steps (shut : ℕ → Bool) : List Slice → Held → List Step → Held → Type 0 where
  none_left : {at : Held} → Steps shut [] at [] at
  next_slice : {a b : ℕ} {cut : List Slice} {at end : Held} {steps : List Step} → Steps shut cut at steps end → Steps shut (slice a b 0 ∷ cut) at steps end
  step : {a b width : ℕ} {cut : List Slice} {at end : Held} {s : Step} {steps : List Step}
      → RunTaken shut a b width at.links at.last s.on.links s.on.last s.on.first s.what s.pairs
      → Steps shut (slice (along a s.pairs) (along b s.pairs) (width - s.pairs) ∷ cut) s.on steps end
      → Steps shut (slice a b width ∷ cut) at (s ∷ steps) end

-- No run goes on where a variable begins.
abbrev pub shut_at : List Row → ℕ → Bool
shut_at t s = begins (variable_widths t) (s - 2)

-- A table and the row of its equation; its first cut; the runs at first, the steps, and what is held behind the sweep; the record, the answer table and how
-- many patterns meet the table.
pub record Work : Type 0 where
  pub table : List ℕ
  pub row : ℕ
  pub cut : List Slice
  pub start : Held
  pub steps : List Step
  pub held : Held
  pub found : Record
  pub answer : List ℕ
  pub patterns : ℕ

-- What it means that these numbers are right. The cut is the equation's first cut, and whatever `cut_sides` writes for it is that cut. At first the sources link to
-- themselves and each variable is one run. The steps are such as `take_run` promises (where roots overlap it could promise others too: `whole_runs` says where a
-- step may end). Behind the steps and the sweep the runs are runs, also of what they link to. Whatever was taken and swept: no conflict was met, so many ties
-- were counted, and these are the links. And a solve gives the record and the answer.
pub record Right (w : Work) : Type 0 where
  pub first_cut : FirstCut (rows_of w.table) (row_at (rows_of w.table) w.row) w.cut
  pub cut_written : (cuts : List ℕ) (n : ℕ) → SidesCut (rows_of w.table) w.row cuts n → slices_in cuts n ≡ w.cut
  pub from : State (shut_at (rows_of w.table)) w.start.links w.start.last w.start.first
  pub alone : w.start.links ≡ count_up 0 (suc (suc (bits_of (rows_of w.table))))
  pub stepped : Steps (shut_at (rows_of w.table)) w.cut w.start w.steps w.held
  pub runs : State (shut_at (rows_of w.table)) w.held.links w.held.last w.held.first
  pub seated : Seated (shut_at (rows_of w.table)) (length w.held.links) w.held.links w.held.last
  pub swept : (shut : ℕ → Bool) (h last first h' last' first' : List ℕ) (row ties : ℕ)
      → EquationsTaken (rows_of w.table) (count_up 0 (suc (suc (bits_of (rows_of w.table))))) 0 (length (rows_of w.table)) (equation_pairs (rows_of w.table)) h row ties
      → State shut h last first → SettlesRuns h last first h' last' first'
      → (row ≡ length (rows_of w.table)) × (ties ≡ w.found.ties) × (h' ≡ w.held.links)
  pub solved : Holds (Solved w.table w.found w.answer w.patterns)
