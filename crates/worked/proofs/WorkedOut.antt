-- Cases are worked out: what a case states of its table, row, sheet or text is computed anew. What is worked out holds, whatever the
-- case. So a case holds if working it out gives that case again. Assumes nothing.
use mathlib.Core.Path.{◌≡◌, refl, subst}
use mathlib.Core.Bool.{Bool, true, false, cond}
use mathlib.Core.List.{List, [], ◌∷◌}
use Prim.Native.Nat.{ℕ, ◌^◌}
use lib.Dec.{eqb}
use lib.ListN.{length}
use borrow.Author.Tests.{le-ltb}
use Rattle.terms.specs.Calls.{fault_record, stop_at}
use Rattle.terms.specs.Faults.{first_fault, is_accepted}
use Rattle.terms.specs.Table.{rows_of, row_numbers, sources_of, extract, evened}
use Rattle.terms.proofs.AcceptedTable.{fault_none}
use Rattle.terms.proofs.Computed.{fault_computed, satisfies_computed}
use Rattle.laws.specs.Lists.{count_up, least, below, tally, member, distinct}
use Rattle.forms.specs.Form.{bits_up, place_pieces, piece_of, meets, merged, add, add_all, group, form_from, form_of, numbers_of}
use Rattle.forms.specs.Call.{form_record, form_after}
use Rattle.sheets.specs.Text.{digit_of, hex_digit_of, more_digits, after_zero, decimal_here, more_hex_digits, hexadecimal_here, number_here, sees, field_at, value_for, row_of_values, line_at, sees_kind, column_at, name_at, all_different, names_at}
use Rattle.sheets.specs.Sheet.{found_from, rows_from, sheet_found, sheet_rows}
use Rattle.sheets.specs.Call.{sheet_record, table_after}
use Rattle.sheets.specs.Writing.{digits}
use Rattle.sheets.specs.Print.{field, record_values, record_text, answer_values, answer_lines, answer_text}
use Rattle.answers.specs.Pairs.{paired, pairs_of, pairs_in}
use Rattle.answers.specs.inner.Classes.{in_class, relabel, merge, run, classes_of, links, conflict_at, links_before}
use Rattle.answers.specs.Answer.{variable_widths, begins, variable_at, contiguous, fixed_alike, goes_on, lowest, appears, place_row, placed, rows_to, answer_rows, fresh_numbers, fresh_pieces, fresh_width, fresh_start, free_bits, width_in_rows, high_bit, home_row, answer_row_numbers, numbers_from, answer_numbers}
use Rattle.answers.specs.Solve.{pairs_together}
use Rattle.worked.specs.Cases.{Case, Solved, Refused, Form, Sheet, Printed, Holds, AllHold, ◌and◌}
use Rattle.worked.proofs.Holding.{written, solved_case, refused_case}
use Rattle.worked.proofs.ByClasses.{conflict_row, links_to, class_rows, class_record, class_answer, by_classes}
use Rattle.worked.proofs.Program.{answer_print, table_print, text_print, text_printed}

-- A table, worked out.
unfoldable pub table_out : List ℕ → Case
table_out table =
    let found = class_record (rows_of table) in
    cond (is_accepted (first_fault table))
    (Solved table found (class_answer (rows_of table)) (cond (eqb found.outcome 1) 0 (2 ^ found.free)))
    (Refused table (fault_record (first_fault table)))

-- A row's normal form, and a sheet, with just the room that they ask for.
unfoldable pub form_out : List ℕ → ℕ → Case
form_out table r =
    let found = form_record table r 4096 in
    Form table r found (cond (eqb found.outcome 0) (numbers_of (form_of (rows_of table) r)) [])

unfoldable pub sheet_out : List ℕ → Case
sheet_out text =
    let found = sheet_record text 2048 in
    Sheet text found (cond (eqb found.outcome 0) (row_numbers (sheet_rows text)) [])

-- What the program prints for a text.
unfoldable pub print_out : List ℕ → Case
print_out text = Printed text (text_print text)

-- A case.
unfoldable pub worked_out : Case → Case
worked_out (Solved table found answer patterns) = table_out table
worked_out (Refused table found) = table_out table
worked_out (Form table r found form) = form_out table r
worked_out (Sheet sheet found table) = sheet_out sheet
worked_out (Printed text print) = print_out text

-- What is worked out holds.
table_holds : (table : List ℕ) → Holds (table_out table)
unfolding table_out
table_holds table = go (is_accepted (first_fault table)) refl
  where
    go : (b : Bool) → is_accepted (first_fault table) ≡ b → Holds (table_out table)
    go true h =
        let accepted = fault_none (first_fault table) h in
        let same = by_classes table accepted in
        rw h (solved_case table (class_record (rows_of table)) accepted same.0 (class_answer (rows_of table)) same.1)
    go false h = rw h (refused_case table (fault_record (first_fault table)) h refl)

form_holds : (table : List ℕ) (r : ℕ) → Holds (form_out table r)
unfolding form_out form_after
form_holds table r old room =
    let found : form_record table r (length old) ≡ form_record table r 4096 =
    unfold form_record stop_at in (rw (le-ltb (length old) 4096 room) refl) in
    (found, rw found (written (eqb (form_record table r 4096).outcome 0) (numbers_of (form_of (rows_of table) r)) old))

sheet_holds : (text : List ℕ) → Holds (sheet_out text)
unfolding sheet_out table_after
sheet_holds text old room =
    let found : sheet_record text (length old) ≡ sheet_record text 2048 =
    unfold sheet_record in (rw (le-ltb (length old) 2048 room) refl) in
    (found, rw found (written (eqb (sheet_record text 2048).outcome 0) (row_numbers (sheet_rows text)) old))

pub out_holds : (c : Case) → Holds (worked_out c)
unfolding worked_out print_out
out_holds (Solved table found answer patterns) = table_holds table
out_holds (Refused table found) = table_holds table
out_holds (Form table r found form) = form_holds table r
out_holds (Sheet sheet found table) = sheet_holds sheet
out_holds (Printed text print) = text_printed text

-- A case that is worked out to itself holds; the others of a list stand behind it.
infixr 40 ◌tested◌
pub ◌tested◌ : {c : Case} {cs : List Case} → worked_out c ≡ c → AllHold cs → AllHold (c ∷ cs)
◌tested◌ {c} test hold = subst Holds test (out_holds c) and hold

-- Whoever unfolds one of these unfolds all that its value is computed from: a table's record and answer, with its rules;
unfoldable pub table_computed : List ℕ → Case
unfolding fault_computed satisfies_computed extract evened sources_of count_up paired pairs_of pairs_in pairs_together relabel merge run classes_of links conflict_at links_before in_class least below tally member distinct variable_widths begins variable_at contiguous fixed_alike goes_on lowest appears place_row placed rows_to answer_rows width_in_rows high_bit home_row answer_row_numbers numbers_from answer_numbers fresh_numbers fresh_pieces fresh_width fresh_start free_bits conflict_row links_to class_rows class_record class_answer table_out
table_computed table = table_out table

-- a row's normal form;
unfoldable pub form_computed : List ℕ → ℕ → Case
unfolding fault_computed satisfies_computed extract sources_of count_up bits_up place_pieces piece_of meets merged add add_all group form_from form_of numbers_of stop_at form_record form_out
form_computed table r = form_out table r

-- a sheet's record and rows;
unfoldable pub sheet_computed : List ℕ → Case
unfolding digit_of hex_digit_of more_digits after_zero decimal_here more_hex_digits hexadecimal_here number_here sees field_at value_for row_of_values line_at sees_kind column_at name_at all_different names_at found_from rows_from sheet_found sheet_rows sheet_record row_numbers sheet_out
sheet_computed text = sheet_out text

-- what is printed;
unfoldable pub print_computed : List ℕ → Case
unfolding table_computed sheet_computed digits field record_values record_text answer_values answer_lines answer_text answer_print table_print text_print print_out
print_computed text = print_out text

-- a case.
unfoldable pub case_computed : Case → Case
unfolding table_computed form_computed sheet_computed print_computed worked_out
case_computed c = worked_out c
