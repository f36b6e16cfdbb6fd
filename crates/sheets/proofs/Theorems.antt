-- The call and the sheets (demand 1 for sheets): with room for 512 rows, the call accepts a text exactly if it is a sheet, and
-- then its record counts the rows and its table has them. Sheets in decimal are among them. Assumes nothing.
use mathlib.Core.Path.{◌≡◌, refl}
use mathlib.Core.List.{List}
use Prim.Native.Nat.{ℕ, ◌≤◌}
use native.Mathlib.Omega.{arith}
use lib.ListN.{length}
use borrow.Author.Tests.{le-ltb}
use Rattle.terms.specs.declared.Row.{Row}
use Rattle.terms.specs.Calls.{completed}
use Rattle.laws.specs.Buffers.{overwrite}
use Rattle.terms.specs.Table.{row_numbers}
use Rattle.sheets.specs.declared.Order.{Order}
use Rattle.sheets.specs.Sheet.{sheet_found, sheet_rows, ReadAs}
use Rattle.sheets.specs.Call.{sheet_record, table_after}
use Rattle.sheets.specs.Writing.{has_room, spelled, value, values_line, lines_text, sheet_text, value_in, line_in, IsOrder, SmallRows, none, one, LinesOf, no_lines, one_line, SheetOf}
use Rattle.sheets.proofs.Written.{read_exactly, sheet-found}
use Rattle.sheets.proofs.SheetCall.{carried, found_numbered, number_told}

pub sheet_accepted : (text old : List ℕ) (rows : List Row) → 2048 ≤ length old → SheetOf text rows
    → (sheet_record text (length old) ≡ completed (length rows) 0) × (table_after text old ≡ overwrite (row_numbers rows) old)
unfolding sheet_record table_after
sheet_accepted text old rows h s =
    let r = (read_exactly text rows).0 s in
    (rw (r.0, le-ltb (length old) 2048 h) refl, rw (r.0, r.1, le-ltb (length old) 2048 h) refl)

-- outcome 0 is for rows read alone
pub sheet_only : (text : List ℕ) (room : ℕ) → (sheet_record text room).outcome ≡ 0 → SheetOf text (sheet_rows text)
sheet_only text room e = (sheet-found text (carried (sheet_found text)) (found_numbered text 0 (number_told text room 0 (omega arith) e))).0

-- what is written in decimal is a sheet, and is read as its rows
lines_in_decimal : (order : Order) {rows : List Row} → SmallRows rows → LinesOf order rows (lines_text order rows)
unfolding has_room spelled value values_line lines_text value_in line_in
lines_in_decimal order none = no_lines
lines_in_decimal order (one s more) = one_line (record { first = 0; second = 0; third = 0; fourth = 0 }) s (lines_in_decimal order more)

module _ (order : Order) (is : IsOrder order) (rows : List Row) (small : SmallRows rows) (few : length rows ≤ 512) (short : length (sheet_text order rows) ≤ 16384) where
  pub decimal_sheet : SheetOf (sheet_text order rows) rows
  decimal_sheet =
      record {
        order = order;
        order_is = is;
        lines = lines_text order rows;
        lines_of = lines_in_decimal order small;
        few = few;
        short = short;
        written = unfold sheet_text in refl;
      }

  pub decimal_sheet_read : ReadAs (sheet_text order rows) rows
  decimal_sheet_read = (read_exactly (sheet_text order rows) rows).0 decimal_sheet
