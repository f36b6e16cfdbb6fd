-- A copy of a table from which its equations are taken: each cut of a cut is made one cut, and the revised equations are left off.
use Rattle.std.specs.Prelude.{◌≡◌, List, ℕ, ◌≤◌, length, take}
use Rattle.terms.specs.Table.{rows_of, counting}
use Rattle.terms.specs.Faults.{Accepted, first_fault}
use Rattle.copies.specs.inner.Shortened.{shortened}

pub record Copied (table copy : List ℕ) : Type 0 where
  pub size : length copy ≡ length table
  pub rows : rows_of copy ≡ counting (shortened (rows_of table))

-- What the code promises, where there is room: the first n numbers are the accepted table's copy.
abbrev pub Copies : List ℕ → ℕ → List ℕ → ℕ → Type 0
Copies table room short n = first_fault table ≡ Accepted → length table ≤ room → Copied table (take n short)
