-- What the check of a table promises: what it finds, the rows that it passes, and where its variables stand.
use Rattle.std.specs.Prelude.{◌≡◌, cond, List, ℕ, ◌+◌, ◌-◌, ◌%◌, ◌≤◌, eqb, ltb, length, take, set, Ok, Err}
use Rattle.terms.specs.declared.Row.{Row}
use Rattle.terms.specs.declared.Fault.TheVariants.{Shape, Kind, Unused, Named, Width, Value, Bounds, Count}
use Rattle.terms.specs.Table.{rows_of}
use Rattle.terms.specs.Faults.{Found, Accepted, first_fault}
use Rattle.terms.specs.inner.Placed.{Numbered, Placed}

-- What the check finds with room for so many widths: below 512 it takes no table.
unfoldable pub fault_in : ℕ → List ℕ → Found
fault_in room numbers = cond (ltb room 512) (Err Shape) (first_fault numbers)

-- How many of n rows stand before a fault. A table of the wrong shape has none.
abbrev pub rows_before : Found → ℕ → ℕ
rows_before (Ok x) n = n
rows_before (Err Shape) n = 0
rows_before (Err (Kind r)) n = r
rows_before (Err (Unused r)) n = r
rows_before (Err (Named r)) n = r
rows_before (Err (Width r)) n = r
rows_before (Err (Value r)) n = r
rows_before (Err (Bounds r)) n = r
rows_before (Err (Count r)) n = r

-- The rows that the check passes: all of them, or those before the fault.
unfoldable pub rows_passed : ℕ → List ℕ → List Row
rows_passed room numbers = take (rows_before (fault_in room numbers) (length (rows_of numbers))) (rows_of numbers)

-- Places with row r put there: how many variables stand before it; and for a variable the source before the next one. The totals count
-- the row.
unfoldable pub row_placed : List ℕ → ℕ → Row → ℕ → ℕ → List ℕ
row_placed places r row variables bits =
    cond (eqb row.kind 0)
    (set (set places r ((variables - 1) % 65536)) (512 + variables) ((bits + 1) % 65536))
    (set places r (variables % 65536))

-- What the check that places promises, with the answer f: of an accepted table the widths and the variables before each row, with room for
-- 512 numbers of places; with room for 578 all that is placed.
abbrev pub NumbersTable : List ℕ → ℕ → List ℕ → List ℕ → Found → Type 0
NumbersTable table room widths places f = f ≡ Accepted → 512 ≤ room → Numbered table widths places

abbrev pub PlacesTable : List ℕ → ℕ → List ℕ → List ℕ → Found → Type 0
PlacesTable table room widths places f = f ≡ Accepted → 578 ≤ room → Placed table widths places
