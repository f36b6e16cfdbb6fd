-- From the sheet to the answer: every sheet of an accepted table is read, solved and printed as its rows' answer, with demands 2 and 3,
-- whatever is lent with room. Assumes nothing.
use mathlib.Core.Path.{◌≡◌, refl, ◌∙◌, ap, subst}
use mathlib.Core.List.{List}
use Prim.Native.Nat.{ℕ, ◌≤◌}
use lib.ListN.{length}
use Rattle.laws.specs.Buffers.{overwrite}
use Rattle.terms.specs.declared.Record.{Record}
use Rattle.terms.specs.declared.Row.{Row}
use Rattle.terms.specs.Calls.{completed}
use Rattle.terms.specs.Faults.{Accepted, first_fault}
use Rattle.terms.specs.Table.{rows_of, row_numbers}
use Rattle.terms.proofs.RowNumbers.{rows_written}
use Rattle.sheets.specs.Call.{sheet_record, table_after}
use Rattle.sheets.specs.Writing.{SheetOf}
use Rattle.sheets.proofs.ProgramText.{prints_answer}
use Rattle.sheets.proofs.TableRead.{table-read}
use Rattle.sheets.proofs.Theorems.{sheet_accepted}
use Rattle.sheets.proofs.Written.{read_exactly}
use Rattle.answers.specs.Solve.{answer_record, solve_record, answer_after}
use Rattle.answers.proofs.Demands.{demand_2, demand_3}
use Rattle.answers.specs.Demands.{Demand2, Demand3}
use Rattle.answers.proofs.Lent.{call_record, call_answer, call_work}
use Rattle.worked.specs.FromSheet.{table_read, SheetSolved}

pub sheet_solved : (text : List ℕ) (rows : List Row) → SheetOf text rows → first_fault (row_numbers rows) ≡ Accepted
    → (table answer work : List ℕ) → 2048 ≤ length table → 24576 ≤ length answer → 16384 ≤ length work
    → SheetSolved text rows table answer work
sheet_solved text rows sheet accepted table answer work lines room memory =
    record {
      read = here.0;
      table-after = here.1;
      lent = left;
      solved = found;
      answer-after = unfold answer_after in (rw (found, left, is_rows) refl);
      answer-rows = λ e. rw left (rw is_rows at (call_answer numbers accepted answer work room memory (two e)));
      work-after = rw left (call_work numbers accepted answer work room memory);
      has_2 = λ e. subst Demand2 is_rows (demand_2 numbers accepted (two e));
      has_3 = subst Demand3 is_rows (demand_3 numbers accepted);
      printed = prints_answer text rows sheet accepted;
    }
  where
    numbers : List ℕ
    numbers = row_numbers rows

    is_rows : rows_of numbers ≡ rows
    is_rows = rows_written rows

    two : (answer_record rows).outcome ≡ 2 → (answer_record (rows_of numbers)).outcome ≡ 2
    two e = ap (λ (t : List Row). (answer_record t).outcome) is_rows ∙ e

    here : (sheet_record text (length table) ≡ completed (length rows) 0) × (table_after text table ≡ overwrite numbers table)
    here = sheet_accepted text table rows lines sheet

    left : table_read text table ≡ numbers
    left = table-read text table lines (ap (λ (r : Record). r.outcome) here.0) ∙ ap row_numbers ((read_exactly text rows).0 sheet).1

    found : solve_record (table_read text table) (length answer) (length work) ≡ answer_record rows
    found =
        ap (λ (l : List ℕ). solve_record l (length answer) (length work)) left
        ∙ call_record numbers accepted answer work room memory ∙ ap answer_record is_rows
