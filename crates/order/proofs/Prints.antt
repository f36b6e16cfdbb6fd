-- (g) Two sheets whose rows are rearranged print the same bytes, unless the outcome is never; then both print a never's record and no table.
-- Assumes nothing.
use mathlib.Core.Path.{◌≡◌, refl, sym, ◌∙◌}
use mathlib.Core.Logic.{◌≢◌}
use mathlib.Core.List.{List, append-nil}
use Prim.Native.Nat.{ℕ}
use Rattle.terms.specs.declared.Record.{Record}
use Rattle.terms.specs.declared.Row.{Row}
use Rattle.terms.specs.Faults.{Accepted, first_fault}
use Rattle.terms.specs.Counting.{NoLines}
use Rattle.terms.specs.Table.{row_numbers}
use Rattle.terms.proofs.RowNumbers.{rows_written}
use Rattle.answers.specs.Solve.{answer_record}
use Rattle.sheets.specs.Writing.{SheetOf}
use Rattle.sheets.specs.Print.{record_text}
use Rattle.sheets.specs.Program.{program_text}
use Rattle.sheets.proofs.ProgramText.{prints_answer}
use Rattle.order.specs.Rearranged.{Rearranged, AlikeRecords, AlikeAnswers, AlikePrints}
use Rattle.order.proofs.OrderAndSides.{order_and_sides}

-- records of which no never's ties and row differ are the same
same_record : (found other : Record) → AlikeRecords found other → found.outcome ≢ 1 → found ≡ other
same_record found other h e = λ i. record { outcome = h.outcome i; pieces = h.pieces i; fresh = h.fresh i; free = h.free i; ties = h.ties e i; row = h.row e i }

-- a never's print has no table
never_print : (text : List ℕ) (rows : List Row) → SheetOf text rows → first_fault (row_numbers rows) ≡ Accepted → (answer_record rows).outcome ≡ 1
    → program_text text ≡ record_text (answer_record rows)
never_print text rows sheet accepted e = prints_answer text rows sheet accepted ∙ rw (e, append-nil) refl

pub same_print : (one other : List ℕ) (t u : List Row) → SheetOf one t → SheetOf other u
    → first_fault (row_numbers t) ≡ Accepted → first_fault (row_numbers u) ≡ Accepted → NoLines t → NoLines u → Rearranged t u → AlikePrints one other t u
same_print one other t u one-sheet other_sheet one-accepted other-accepted one-no-lines other-lines h =
    record {
      bytes = bytes;
      never_one = never_print one t one-sheet one-accepted;
      never_other = λ e.
          let o : (answer_record u).outcome ≡ 1 = sym answers.records.outcome ∙ e in
          (o, never_print other u other_sheet other-accepted o);
    }
  where
    answers : AlikeAnswers t u
    answers =
        rw (rows_written t, rows_written u) at (order_and_sides (row_numbers t) (row_numbers u) one-accepted other-accepted
        (rw (rows_written t) one-no-lines) (rw (rows_written u) other-lines) (rw (rows_written t, rows_written u) h))

    bytes : (answer_record t).outcome ≢ 1 → program_text one ≡ program_text other
    bytes e =
        let same : answer_record t ≡ answer_record u = same_record (answer_record t) (answer_record u) answers.records e in
        prints_answer one t one-sheet one-accepted ∙ rw (same, answers.rows) (sym (prints_answer other u other_sheet other-accepted))
