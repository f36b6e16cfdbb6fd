-- The table that the reader leaves, as rows and as numbers. Assumes nothing.
use mathlib.Core.Path.{◌≡◌, sym, ◌∙◌, ap}
use mathlib.Core.List.{List}
use Prim.Native.Nat.{ℕ, ◌*◌, ◌≤◌}
use native.Mathlib.Omega.{arith}
use lib.ListN.{length, take, drop}
use lib.Seq.{take_at}
use Rattle.terms.specs.declared.Record.{Record}
use Rattle.laws.proofs.Buffers.{overwrite-fits}
use Rattle.terms.specs.Table.{row_numbers}
use Rattle.sheets.specs.Sheet.{sheet_rows}
use Rattle.sheets.specs.Call.{sheet_record, table_after}
use Rattle.sheets.proofs.SheetCall.{sheet_few}
use Rattle.terms.proofs.RowNumbers.{row_numbers_length}
use Rattle.sheets.proofs.Theorems.{sheet_accepted, sheet_only}

module _ (text old : List ℕ) (room : 2048 ≤ length old) (accepted : (sheet_record text (length old)).outcome ≡ 0) where
  pub pieces_read : (sheet_record text (length old)).pieces ≡ length (sheet_rows text)
  pieces_read = ap (λ (r : Record). r.pieces) (sheet_accepted text old (sheet_rows text) room (sheet_only text (length old) accepted)).0

  -- at most 512 rows
  pub pieces_few : (sheet_record text (length old)).pieces ≤ 512
  pieces_few = omega (arith, pieces_read, sheet_few text)

  -- The numbers that the reader wrote, as many rows as its record says, are the sheet's table.
  pub table-read : take ((sheet_record text (length old)).pieces * 4) (table_after text old) ≡ row_numbers (sheet_rows text)
  table-read =
      let s = sheet_accepted text old (sheet_rows text) room (sheet_only text (length old) accepted) in
      let fits : length (row_numbers (sheet_rows text)) ≤ length old = omega (arith, row_numbers_length (sheet_rows text), sheet_few text) in
      let count : (sheet_record text (length old)).pieces * 4 ≡ length (row_numbers (sheet_rows text)) =
      ap (λ (n : ℕ). n * 4) pieces_read ∙ sym (row_numbers_length (sheet_rows text)) in
      ap (λ (l : List ℕ). take ((sheet_record text (length old)).pieces * 4) l) (s.1 ∙ overwrite-fits (row_numbers (sheet_rows text)) old fits)
      ∙ take_at (row_numbers (sheet_rows text)) (drop (length (row_numbers (sheet_rows text))) old) ((sheet_record text (length old)).pieces * 4) (sym count)
