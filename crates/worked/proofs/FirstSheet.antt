-- Case 1's sheet: its bytes are what is written of its rows, and it is a sheet of them. Assumes nothing.
use mathlib.Core.Path.{◌≡◌, refl}
use mathlib.Core.List.{List, [], ◌∷◌, ◌++◌}
use Prim.Native.Nat.{ℕ}
use Rattle.terms.specs.declared.Row.{Row}
use Rattle.sheets.specs.Writing.{digits, decimal, name_bytes, column, name, value, names_line, values_line, lines_text, sheet_text, SheetOf}
use Rattle.sheets.proofs.Written.{read_exactly}
use Rattle.worked.specs.Cases.{line}
use Rattle.worked.proofs.WorkedOut.{sheet_computed}

-- Case 1's sheet and rows.
abbrev first_sheet : List ℕ
first_sheet = line "kind a b c" ++ line "0 8 0 0" ++ line "3 0 6 3" ++ line "3 0 4 1" ++ line "4 1 2 0"

abbrev row : ℕ → ℕ → ℕ → ℕ → Row
row k x y z = record { kind = k; a = x; b = y; c = z }

abbrev first_rows : List Row
first_rows = row 0 8 0 0 ∷ row 3 0 6 3 ∷ row 3 0 4 1 ∷ row 4 1 2 0 ∷ []

-- Its bytes are what is written of its rows, with the names in the order kind, a, b, c.
pub case_1_written : sheet_text (record { first = 0; second = 1; third = 2; fourth = 3 }) first_rows ≡ first_sheet
unfolding digits decimal name_bytes column name value names_line values_line lines_text sheet_text
case_1_written = refl

-- It is read as these rows, and so is a sheet of them.
pub case_1_sheet : SheetOf first_sheet first_rows
unfolding sheet_computed
case_1_sheet = (read_exactly first_sheet first_rows).1 (refl, refl)
