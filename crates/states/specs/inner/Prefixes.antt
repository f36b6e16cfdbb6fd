-- What the inner functions promise of a table's first equations, taken from a copy of the table.
use Rattle.std.specs.Prelude.{◌≡◌, List, ℕ, ◌+◌, ◌≤◌, length, take}
use Rattle.terms.specs.declared.Row.{Row}
use Rattle.terms.specs.Table.{rows_of}
use Rattle.terms.specs.inner.Placed.{Placed}
use Rattle.answers.specs.Pairs.{equation_pairs}
use Rattle.answers.specs.inner.Classes.{run_all, conflict_at, links_before}
use Rattle.copies.specs.inner.Copies.{Copied}
use Rattle.linking.specs.inner.Classes.{unlinked}

-- The equations before row `to` were taken up to a row: the first at which two different fixed bits met, or `to`. `ties` are those of the
-- rows before it; if there was none, each link is its source's representative.
pub record PrefixTaken (t : List Row) (to : ℕ) (links : List ℕ) (row ties : ℕ) : Type 0 where
  pub row_is : row ≡ conflict_at (unlinked t) (take to (equation_pairs t))
  pub ties_are : ties ≡ links_before (unlinked t) (take to (equation_pairs t))
  pub settled : row ≡ to → links ≡ run_all (unlinked t) (take to (equation_pairs t))

-- What taking those from row `from` on promises, of a table that was placed and copied, with room for the forms of two sides, where those
-- before were taken.
abbrev pub TakesOn : List ℕ → List ℕ → List ℕ → List ℕ → ℕ → ℕ → ℕ → ℕ → List ℕ → List ℕ → ℕ → ℕ → Type 0
TakesOn table short widths places from to leftRoom rightRoom links links' row ties =
    Placed table widths places → Copied table short → 4096 ≤ leftRoom → 4096 ≤ rightRoom → from ≤ to → to ≤ length (rows_of table)
    → (before : ℕ) → PrefixTaken (rows_of table) from links from before → PrefixTaken (rows_of table) to links' row (before + ties)
