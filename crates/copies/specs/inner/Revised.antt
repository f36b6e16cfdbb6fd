-- The revised equations of a table left off where it stands.
use Rattle.std.specs.Prelude.{◌≡◌, cond, List, ℕ, suc, ◌≤◌, length, drop, set}
use Rattle.terms.specs.declared.Row.{Row}
use Rattle.terms.specs.Table.{rows_of, row_at, silent_row, revised, counting}

-- Rows with row r left off, if it is a revised equation.
unfoldable pub left_off : List Row → ℕ → List Row
left_off t r = cond (revised (row_at t r) (drop (suc r) t)) (set t r silent_row) t

-- What the code promises of one row, and of all.
abbrev pub LeavesOff : List ℕ → ℕ → List ℕ → Type 0
LeavesOff table r table' = length (rows_of table) ≤ 512 → rows_of table' ≡ left_off (rows_of table) r

abbrev pub LeavesOffRevised : List ℕ → List ℕ → Type 0
LeavesOffRevised table table' = length (rows_of table) ≤ 512 → rows_of table' ≡ counting (rows_of table)
