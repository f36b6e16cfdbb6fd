-- A table in which no cut is cut again: each cut of a cut is made one cut, by equation 7 of definition 3.2 of document 001.
use Rattle.std.specs.Prelude.{◌≡◌, ◌&&◌, cond, List, [], ℕ, ◌+◌, ◌*◌, ◌%◌, ◌≤◌, eqb, length, take}
use Rattle.laws.specs.Buffers.{set_four}
use Rattle.terms.specs.declared.Row.{Row}
use Rattle.terms.specs.Table.{rows_of, row_at, by_rows}
use Rattle.terms.specs.Faults.{Accepted, first_fault}

-- A row, where `made` has the rows before it: a cut of the cut x[i:j] is one cut of x, its bounds j higher.
unfoldable pub short_row : List Row → Row → Row
short_row made r =
    cond (eqb r.kind 3 && eqb (row_at made r.a).kind 3)
    (record { kind = 3; a = (row_at made r.a).a; b = r.b + (row_at made r.a).c; c = r.c + (row_at made r.a).c })
    r

-- The rows of a table, each made so, from the first on.
unfoldable pub shortened : List Row → List Row
shortened t = by_rows (λ before made r. short_row made r) [] [] t

-- A row, from the row that it names first, in 16 bits.
unfoldable pub short_in : Row → Row → Row
short_in r named =
    cond (eqb r.kind 3 && eqb named.kind 3)
    (record { kind = 3; a = named.a; b = (r.b + named.c) % 65536; c = (r.c + named.c) % 65536 })
    r

-- Numbers with row r stored, as far as they reach.
unfoldable pub stored_row : List ℕ → ℕ → Row → List ℕ
stored_row s r row = set_four s (r * 4) row.kind row.a row.b row.c

-- What the code promises: n numbers, the accepted table's with its cuts made so.
abbrev pub Shortens : List ℕ → ℕ → List ℕ → ℕ → Type 0
Shortens table room short n =
    first_fault table ≡ Accepted → length table ≤ room → (n ≡ length table) × (rows_of (take n short) ≡ shortened (rows_of table))
