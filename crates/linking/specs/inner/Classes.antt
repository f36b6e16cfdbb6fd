-- What the inner functions promise of the classes of a table's bits.
use Rattle.std.specs.Prelude.{◌≡◌, List, ℕ, suc, ◌≤◌, length}
use Rattle.terms.specs.declared.Row.{Row}
use Rattle.terms.specs.Table.{rows_of, bits_of}
use Rattle.terms.specs.Faults.{Accepted, first_fault}
use Rattle.terms.specs.inner.Placed.{Placed}
use Rattle.laws.specs.Lists.{count_up}
use Rattle.answers.specs.Pairs.{equation_pairs}
use Rattle.answers.specs.inner.Classes.{run_all, conflict_at, links_before}
use Rattle.taking.specs.inner.Equations.{EquationsTaken}

-- Each source of a table links to itself.
abbrev pub unlinked : List Row → List ℕ
unlinked t = count_up 0 (suc (suc (bits_of t)))

-- Links that were undone.
abbrev pub Unlinks : List ℕ → List ℕ → Type 0
Unlinks links links' = length links ≤ 65536 → links' ≡ count_up 0 (length links)

-- The equations of a table were taken up to a row: the first at which two different fixed bits met, or the number of rows. `ties` are those
-- of the rows before it; if there was none, each link is its source's representative.
pub record ClassesTaken (t : List Row) (links : List ℕ) (row ties : ℕ) : Type 0 where
  pub row_is : row ≡ conflict_at (unlinked t) (equation_pairs t)
  pub ties_are : ties ≡ links_before (unlinked t) (equation_pairs t)
  pub few : ties ≤ 1000000
  pub settled : row ≡ length t → links ≡ run_all (unlinked t) (equation_pairs t)

-- What the closing sweep promises of the equations that were taken, all of them from unlinked sources.
abbrev pub SettlesTies : List ℕ → ℕ → ℕ → List ℕ → List ℕ → Type 0
SettlesTies table row ties links links' =
    first_fault table ≡ Accepted
    → EquationsTaken (rows_of table) (unlinked (rows_of table)) 0 (length (rows_of table)) (equation_pairs (rows_of table)) links row ties
    → ClassesTaken (rows_of table) links' row ties

-- The classes of a table that was placed, with room for the normal form of a side, in a link for each source.
abbrev pub TableClasses : List ℕ → List ℕ → List ℕ → ℕ → List ℕ → List ℕ → ℕ → ℕ → Type 0
TableClasses table widths places formRoom links links' row ties =
    Placed table widths places → 4096 ≤ formRoom → length links ≡ suc (suc (bits_of (rows_of table))) → ClassesTaken (rows_of table) links' row ties

-- The same, with room for a copy of the table.
abbrev pub ClassesWith : List ℕ → List ℕ → List ℕ → ℕ → ℕ → List ℕ → List ℕ → ℕ → ℕ → Type 0
ClassesWith table widths places copyRoom formRoom links links' row ties =
    length table ≤ copyRoom → TableClasses table widths places formRoom links links' row ties
