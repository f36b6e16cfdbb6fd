-- From a sheet to its answer: the sheet is read into a table, what was read is solved, and the answer is printed. The theorem is
-- `sheet_solved` (proofs/SheetsSolved.antt).
use Rattle.std.specs.Prelude.{◌≡◌, cond, List, [], ◌++◌, ℕ, ◌*◌, eqb, length, take, replicate}
use Rattle.laws.specs.Buffers.{overwrite}
use Rattle.terms.specs.declared.Row.{Row}
use Rattle.terms.specs.Calls.{completed}
use Rattle.terms.specs.Table.{row_numbers}
use Rattle.sheets.specs.Call.{sheet_record, table_after}
use Rattle.sheets.specs.Print.{record_text, answer_text}
use Rattle.sheets.specs.Program.{program_text}
use Rattle.answers.specs.Answer.{answer_numbers}
use Rattle.answers.specs.Solve.{solved_rows, answer_record, solve_record, answer_after, work_after}
use Rattle.answers.specs.Demands.{Demand2, Demand3}

-- What reading leaves for a solve: the numbers of as many rows as the record says, from the beginning of the table.
abbrev pub table_read : List ℕ → List ℕ → List ℕ
table_read text table = take ((sheet_record text (length table)).pieces * 4) (table_after text table)

-- A text is read as these rows, into a table; what was read is solved, with an answer table and a work area; and the text is printed.
pub record SheetSolved (text : List ℕ) (rows : List Row) (table answer work : List ℕ) : Type 0 where
  -- the rows stand at the beginning of the table, and what follows keeps its content
  pub read : sheet_record text (length table) ≡ completed (length rows) 0
  pub table-after : table_after text table ≡ overwrite (row_numbers rows) table
  pub lent : table_read text table ≡ row_numbers rows
  -- the record is that of the rows; for outcome 2 the answer's rows stand at the beginning of the answer table, all of them; every number of
  -- the work area is 0
  pub solved : solve_record (table_read text table) (length answer) (length work) ≡ answer_record rows
  pub answer-after : answer_after (table_read text table) answer (length work)
      ≡ cond (eqb (answer_record rows).outcome 2) (overwrite (answer_numbers (solved_rows rows)) answer) answer
  pub answer-rows : (answer_record rows).outcome ≡ 2
      → take ((answer_record rows).pieces * 6) (answer_after (table_read text table) answer (length work)) ≡ answer_numbers (solved_rows rows)
  pub work-after : work_after (table_read text table) (length answer) work ≡ replicate (length work) 0
  -- demands 2 and 3
  pub has_2 : (answer_record rows).outcome ≡ 2 → Demand2 rows
  pub has_3 : Demand3 rows
  -- the record is printed, then the answer's rows for outcome 2 only
  pub printed : program_text text
      ≡ record_text (answer_record rows) ++ cond (eqb (answer_record rows).outcome 2) (answer_text (answer_numbers (solved_rows rows))) []
