-- What the program prints for a text (document 01, "Sheet and program"): the record, then the answer table for outcome 2 only.
use Rattle.std.specs.Prelude.{cond, List, [], ◌++◌, ℕ, eqb, ltb, length}
use Rattle.terms.specs.declared.Record.{Record}
use Rattle.laws.specs.Buffers.{overwrite}
use Rattle.terms.specs.Table.{row_numbers}
use Rattle.sheets.specs.Sheet.{sheet_rows}
use Rattle.sheets.specs.Call.{sheet_record}
use Rattle.sheets.specs.Print.{record_text, answer_text}
use Rattle.answers.specs.Answer.{answer_numbers}
use Rattle.answers.specs.Solve.{solved_rows, solve_record}

-- The record of a text, where the answer table has room for so many numbers: the reader's refusal, else the solver's record of the rows
-- read. The reader is lent 512 rows, the solver a work area of 16,384 numbers.
unfoldable pub text_record : List ℕ → ℕ → Record
text_record text answerRoom =
    cond (eqb (sheet_record text 2048).outcome 0)
    (solve_record (row_numbers (sheet_rows text)) answerRoom 16384)
    (sheet_record text 2048)

-- The answer table afterwards: for outcome 2 the numbers of the rows' answer and then what was there; else what was there.
unfoldable pub text_answer : List ℕ → List ℕ → List ℕ
text_answer text old =
    cond (eqb (text_record text (length old)).outcome 2) (overwrite (answer_numbers (solved_rows (sheet_rows text))) old) old

-- The program's record: its answer table has room for 24,576 numbers.
unfoldable pub program_record : List ℕ → Record
program_record text = text_record text 24576

-- The bytes that are printed: the record, then the answer table for outcome 2 only.
unfoldable pub program_text : List ℕ → List ℕ
program_text text =
    record_text (program_record text)
    ++ cond (eqb (program_record text).outcome 2) (answer_text (answer_numbers (solved_rows (sheet_rows text)))) []

-- The print in a buffer: how many bytes are written, and the buffer afterwards. One below 327,920 bytes, the room for the longest print,
-- is left as it was.
unfoldable pub print_length : List ℕ → ℕ → ℕ
print_length text room = cond (ltb room 327920) 0 (length (program_text text))

unfoldable pub print_after : List ℕ → List ℕ → List ℕ
print_after text out = cond (ltb (length out) 327920) out (overwrite (program_text text) out)
