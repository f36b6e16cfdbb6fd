-- What the program prints for a text, worked out: a sheet is read, its table solved through the classes of its bit pairs, and the record
-- printed with the answer's rows for outcome 2; or the refusal of the text, or of its table. Assumes nothing.
use mathlib.Core.Path.{◌≡◌, refl, ◌∙◌, ap}
use mathlib.Core.Bool.{Bool, true, false, cond}
use mathlib.Core.List.{List, [], ◌++◌}
use Prim.Native.Nat.{ℕ}
use lib.Dec.{eqb}
use borrow.Author.Tests.{eqb-true, eqb-false}
use Rattle.terms.specs.declared.Record.{Record}
use Rattle.terms.specs.declared.Row.{Row}
use Rattle.terms.specs.Calls.{fault_record}
use Rattle.terms.specs.Faults.{first_fault, is_accepted}
use Rattle.terms.specs.Table.{rows_of, row_numbers}
use Rattle.terms.proofs.AcceptedTable.{fault_none}
use Rattle.terms.proofs.RowNumbers.{rows_written}
use Rattle.sheets.specs.Sheet.{sheet_rows}
use Rattle.sheets.specs.Call.{sheet_record}
use Rattle.sheets.specs.Writing.{SheetOf}
use Rattle.sheets.specs.Print.{record_text, answer_text}
use Rattle.sheets.specs.Program.{program_text}
use Rattle.sheets.proofs.Theorems.{sheet_only}
use Rattle.sheets.proofs.ProgramText.{prints_refusal, prints_fault, prints_answer}
use Rattle.answers.specs.Answer.{answer_numbers}
use Rattle.answers.specs.Solve.{solved_rows, answer_record}
use Rattle.worked.proofs.ByClasses.{class_record, class_answer, by_classes}

-- The print of a record with an answer's numbers; of a table; of a text.
unfoldable pub answer_print : Record → List ℕ → List ℕ
answer_print found answer = record_text found ++ cond (eqb found.outcome 2) (answer_text answer) []

unfoldable pub table_print : List ℕ → List ℕ
table_print table =
    cond (is_accepted (first_fault table))
    (answer_print (class_record (rows_of table)) (class_answer (rows_of table)))
    (record_text (fault_record (first_fault table)))

unfoldable pub text_print : List ℕ → List ℕ
text_print text =
    cond (eqb (sheet_record text 2048).outcome 0) (table_print (row_numbers (sheet_rows text))) (record_text (sheet_record text 2048))

text_same : (b : Bool) (x y : List ℕ) → cond b x [] ≡ y → cond b (answer_text x) [] ≡ cond b (answer_text y) []
text_same true x y e = ap answer_text e
text_same false x y e = refl

sheet_printed : (text : List ℕ) (rows : List Row) → SheetOf text rows → program_text text ≡ table_print (row_numbers rows)
unfolding table_print answer_print
sheet_printed text rows sheet = go (is_accepted (first_fault (row_numbers rows))) refl
  where
    t : List Row
    t = rows_of (row_numbers rows)

    go : (b : Bool) → is_accepted (first_fault (row_numbers rows)) ≡ b → program_text text ≡ table_print (row_numbers rows)
    go true h =
        let accepted = fault_none (first_fault (row_numbers rows)) h in
        let same = by_classes (row_numbers rows) accepted in
        let print : program_text text ≡ record_text (answer_record t) ++ cond (eqb (answer_record t).outcome 2) (answer_text (answer_numbers (solved_rows t))) [] =
        rw (rows_written rows) (prints_answer text rows sheet accepted) in
        rw h
        (print
        ∙ rw same.0 (ap (λ (l : List ℕ). record_text (class_record t) ++ l)
        (text_same (eqb (class_record t).outcome 2) (answer_numbers (solved_rows t)) (class_answer t) same.1)))
    go false h = rw h (prints_fault text rows sheet h)

pub text_printed : (text : List ℕ) → program_text text ≡ text_print text
unfolding text_print
text_printed text = go (eqb (sheet_record text 2048).outcome 0) refl
  where
    go : (b : Bool) → eqb (sheet_record text 2048).outcome 0 ≡ b
        → program_text text ≡ cond b (table_print (row_numbers (sheet_rows text))) (record_text (sheet_record text 2048))
    go true h = sheet_printed text (sheet_rows text) (sheet_only text 2048 (eqb-true (sheet_record text 2048).outcome 0 h))
    go false h = prints_refusal text (eqb-false (sheet_record text 2048).outcome 0 h)
