-- What the functions promise that take the equations of a table in whole runs.
use Rattle.std.specs.Prelude.{◌≡◌, Bool, List, ℕ, suc, ◌-◌, ◌≤◌, length}
use Rattle.terms.specs.declared.Row.{Row}
use Rattle.terms.specs.Table.{rows_of, bits_of}
use Rattle.terms.specs.inner.Placed.{Placed}
use Rattle.answers.specs.Pairs.{equation_pairs}
use Rattle.answers.specs.Answer.{variable_widths, begins}
use Rattle.taking.specs.inner.Equations.{EquationsTaken}
use Rattle.linking.specs.inner.Classes.{unlinked}
use Rattle.run_pairs.specs.inner.Taken.{State}

-- Whether a variable begins at a source, or the end of the last one: no run goes on there.
abbrev pub shut_at : List Row → ℕ → Bool
shut_at t s = begins (variable_widths t) (s - 2)

-- The equations of a table that count were taken in runs; where no conflict was met, the classes are in runs.
pub record TakenInRuns (t : List Row) (links last first : List ℕ) (row ties : ℕ) : Type 0 where
  pub taken : EquationsTaken t (unlinked t) 0 (length t) (equation_pairs t) links row ties
  pub state : row ≡ length t → State (shut_at t) links last first

-- Each source of a table is alone, and each of its variables is one run.
pub record RunsBegun (t : List Row) (links last first : List ℕ) : Type 0 where
  pub alone : links ≡ unlinked t
  pub state : State (shut_at t) links last first

abbrev pub BeginsRuns : List ℕ → List ℕ → List ℕ → List ℕ → List ℕ → List ℕ → List ℕ → Type 0
BeginsRuns places links last first links' last' first' =
    (table widths : List ℕ) → Placed table widths places → length links ≡ suc (suc (bits_of (rows_of table))) → 4098 ≤ length last → 4098 ≤ length first
    → RunsBegun (rows_of table) links' last' first'

abbrev pub TakesCopy : List ℕ → List ℕ → List ℕ → ℕ → List ℕ → ℕ → ℕ → List ℕ → List ℕ → List ℕ → ℕ → ℕ → Type 0
TakesCopy table widths places formRoom links lastRoom firstRoom links' last' first' row ties =
    Placed table widths places → 4096 ≤ formRoom → length links ≡ suc (suc (bits_of (rows_of table))) → 4098 ≤ lastRoom → 4098 ≤ firstRoom
    → TakenInRuns (rows_of table) links' last' first' row ties
