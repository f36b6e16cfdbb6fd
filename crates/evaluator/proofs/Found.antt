-- What the passes over an accepted table leave, in the words of `Ready`.
use mathlib.Core.Path.{◌≡◌, ap}
use mathlib.Core.Bool.{false}
use mathlib.Core.List.{List}
use Prim.Native.Nat.{ℕ}
use lib.ListN.{take}
use lib.Seq.{take_all}
use Rattle.terms.specs.Table.{rows_of, bits_of}
use Rattle.terms.specs.Faults.{Accepted, absent, first_fault}
use Rattle.terms.proofs.AcceptedTable.{accepted_table, term_there}
use Rattle.evaluator.specs.inner.Ready.{IsTerm}

-- the bits that an accepted table has
pub bits_found : (table : List ℕ) → first_fault table ≡ Accepted → bits_of (take 512 (rows_of table)) ≡ bits_of (rows_of table)
bits_found table f = ap bits_of (take_all 512 (rows_of table) (accepted_table table f).few)

-- a row that is there, in the words of `Ready`
pub row_there : (table : List ℕ) (row : ℕ) → absent (rows_of table) row ≡ false → IsTerm table row
row_there table row a =
    let found = term_there (rows_of table) row a in
    record { there = found.earlier; no_equation = found.no_equation }
