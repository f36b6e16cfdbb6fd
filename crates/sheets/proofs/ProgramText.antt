-- What the program prints for every text: for a sheet whose table is accepted the answer, else the refusal's record. Assumes nothing.
use mathlib.Core.Path.{◌≡◌, refl, sym, ◌∙◌, ap, ap₂}
use mathlib.Core.Bool.{false, cond}
use mathlib.Core.List.{List, [], ◌++◌, append-nil}
use Prim.Native.Nat.{ℕ}
use native.Mathlib.Omega.{arith}
use lib.Dec.{eqb}
use lib.ListN.{length, replicate, length-replicate}
use borrow.Author.Tests.{ne_eqb}
use Rattle.terms.specs.declared.Row.{Row}
use Rattle.terms.specs.Faults.{Accepted, is_accepted, first_fault}
use Rattle.terms.specs.Calls.{fault_record, stop_at}
use Rattle.sheets.specs.Writing.{SheetOf}
use Rattle.terms.specs.Table.{row_numbers}
use Rattle.sheets.specs.Call.{sheet_record}
use Rattle.sheets.specs.Print.{record_text, answer_text}
use Rattle.terms.proofs.AcceptedTable.{fault_high}
use Rattle.terms.proofs.RowNumbers.{rows_written}
use Rattle.sheets.proofs.Written.{read_exactly}
use Rattle.answers.specs.Answer.{answer_numbers}
use Rattle.answers.specs.Solve.{solved_rows, answer_record, solve_record}
use Rattle.answers.proofs.Lent.{call_record}
use Rattle.sheets.specs.Program.{text_record, program_record, program_text}
use Rattle.sheets.proofs.Solving.{sheet_not_2}

-- no sheet: the reader's refusal
pub prints_refusal : (text : List ℕ) → ((sheet_record text 2048).outcome ≡ 0 → ⊥) → program_text text ≡ record_text (sheet_record text 2048)
unfolding program_text program_record text_record
prints_refusal text h =
    rw (ne_eqb (sheet_record text 2048).outcome 0 h, ne_eqb (sheet_record text 2048).outcome 2 (sheet_not_2 text 2048), append-nil) refl

module _ (text : List ℕ) (rows : List Row) (sheet : SheetOf text rows) where
  sheet-record : program_record text ≡ solve_record (row_numbers rows) 24576 16384
  unfolding program_record text_record sheet_record
  sheet-record = let r = (read_exactly text rows).0 sheet in rw (r.0, r.1) refl

  -- a sheet whose table has a fault: the solver's refusal
  pub prints_fault : is_accepted (first_fault (row_numbers rows)) ≡ false
      → program_text text ≡ record_text (fault_record (first_fault (row_numbers rows)))
  unfolding program_text solve_record stop_at
  prints_fault h =
      let f : program_record text ≡ fault_record (first_fault (row_numbers rows)) = sheet-record ∙ rw h refl in
      let high = fault_high (first_fault (row_numbers rows)) h in
      rw (f, ne_eqb (fault_record (first_fault (row_numbers rows))).outcome 2 (λ e. omega (arith, e)), append-nil) refl

  -- a sheet whose table is accepted: its answer
  pub prints_answer : first_fault (row_numbers rows) ≡ Accepted
      → program_text text
      ≡ record_text (answer_record rows) ++ cond (eqb (answer_record rows).outcome 2) (answer_text (answer_numbers (solved_rows rows))) []
  unfolding program_text
  prints_answer accepted =
      let zeros : List ℕ = replicate 24576 0 in
      let work : List ℕ = replicate 16384 0 in
      let room : length zeros ≡ 24576 = length-replicate {A = ℕ} 24576 0 in
      let memory : length work ≡ 16384 = length-replicate {A = ℕ} 16384 0 in
      let found : program_record text ≡ answer_record rows =
      sheet-record
      ∙ ap₂ (solve_record (row_numbers rows)) (sym room) (sym memory)
      ∙ call_record (row_numbers rows) accepted zeros work (omega arith) (omega arith)
      ∙ ap answer_record (rows_written rows) in
      rw (found, ((read_exactly text rows).0 sheet).1) refl
