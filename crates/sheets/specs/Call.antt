-- What reading a sheet returns and writes, for every input (document 01, "Where a call stops").
use Rattle.std.specs.Prelude.{cond, List, ℕ, eqb, ltb, length, Result, Ok, Err}
use Rattle.terms.specs.declared.Record.{Record}
use Rattle.terms.specs.Calls.{refusal, completed}
use Rattle.laws.specs.Buffers.{overwrite}
use Rattle.sheets.specs.declared.SheetError.{SheetError}
use Rattle.sheets.specs.declared.SheetError.TheVariants.{TooLong, WrongNames, TooMany, WrongLine}
use Rattle.terms.specs.Table.{row_numbers}
use Rattle.sheets.specs.Sheet.{sheet_found, sheet_rows}

-- The number and the row of each refusal of a sheet; 0 for rows read.
abbrev pub sheet_number : Result ℕ SheetError → ℕ
sheet_number (Err TooLong) = 20
sheet_number (Err WrongNames) = 21
sheet_number (Err TooMany) = 23
sheet_number (Err (WrongLine k)) = 22
sheet_number (Ok k) = 0

abbrev pub sheet_row : Result ℕ SheetError → ℕ
sheet_row (Err TooLong) = 0
sheet_row (Err WrongNames) = 0
sheet_row (Err TooMany) = 512
sheet_row (Err (WrongLine k)) = k
sheet_row (Ok k) = 0

-- How many rows were read.
abbrev pub row_count : Result ℕ SheetError → ℕ
row_count (Err TooLong) = 0
row_count (Err WrongNames) = 0
row_count (Err TooMany) = 0
row_count (Err (WrongLine k)) = 0
row_count (Ok k) = k

-- The record, where the table has room for so many numbers. 32: table lent for the rows below 512 rows
unfoldable pub sheet_record : List ℕ → ℕ → Record
sheet_record text room =
    cond (eqb (sheet_number (sheet_found text)) 0)
    (cond (ltb room 2048) (refusal 32 0) (completed (row_count (sheet_found text)) 0))
    (refusal (sheet_number (sheet_found text)) (sheet_row (sheet_found text)))

-- The table after the call: the rows read and then what was there; what was there, if the call is refused.
unfoldable pub table_after : List ℕ → List ℕ → List ℕ
table_after text old = cond (eqb (sheet_record text (length old)).outcome 0) (overwrite (row_numbers (sheet_rows text)) old) old
