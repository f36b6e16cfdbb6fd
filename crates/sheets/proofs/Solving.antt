-- What the record and the answer table of a text are, for each way in which solving it ends; how many rows the program's answer has.
-- Assumes nothing.
use mathlib.Core.Path.{◌≡◌, refl, sym, ◌∙◌, ap, ap₂}
use mathlib.Core.Bool.{Bool, true, false, cond}
use mathlib.Core.List.{List}
use Prim.Native.Nat.{ℕ, ◌*◌, ◌≤◌}
use native.Mathlib.Omega.{arith}
use lib.Dec.{eqb, ltb}
use lib.ListN.{length, take, replicate, length-replicate}
use borrow.Author.Tests.{eq-eqb, ne_eqb, eqb-true}
use Rattle.std.specs.Prelude.{Result, Ok, Err}
use Rattle.terms.specs.declared.Record.{Record}
use Rattle.terms.specs.declared.Row.{Row}
use Rattle.terms.specs.Table.{rows_of, bits_of, satisfies}
use Rattle.terms.specs.Faults.{Accepted, first_fault}
use Rattle.terms.specs.Calls.{refusal, completed}
use Rattle.terms.proofs.AcceptedTable.{table_bits}
use Rattle.sheets.specs.declared.SheetError.{SheetError}
use Rattle.sheets.specs.declared.SheetError.TheVariants.{TooLong, WrongNames, TooMany, WrongLine}
use Rattle.terms.specs.Table.{row_numbers}
use Rattle.sheets.specs.Sheet.{sheet_rows, sheet_found}
use Rattle.sheets.specs.Call.{sheet_number, sheet_row, row_count, sheet_record}
use Rattle.terms.proofs.RowNumbers.{rows_written}
use Rattle.answers.specs.Answer.{variable_widths, answer_numbers}
use Rattle.answers.specs.Pairs.{equal_under}
use Rattle.answers.specs.Solve.{solved_rows, answer_record, solve_record, answer_after}
use Rattle.answers.proofs.Demands.{demand_3}
use Rattle.answers.proofs.Lent.{call_record, call_answer, solve_accepts}
use Rattle.answers.proofs.Tables.{rows_few}
use Rattle.sheets.specs.Program.{text_record, text_answer, program_record}

-- no refusal of a sheet is outcome 2
number_not_2 : (room : ℕ) (s : Result ℕ SheetError)
    → (cond (eqb (sheet_number s) 0) (cond (ltb room 2048) (refusal 32 0) (completed (row_count s) 0))
    (refusal (sheet_number s) (sheet_row s))).outcome ≡ 2 → ⊥
number_not_2 room (Err TooLong) e = omega (arith, e)
number_not_2 room (Err WrongNames) e = omega (arith, e)
number_not_2 room (Err TooMany) e = omega (arith, e)
number_not_2 room (Err (WrongLine k)) e = omega (arith, e)
number_not_2 room (Ok k) e = go (ltb room 2048) e
  where
    go : (b : Bool) → (cond b (refusal 32 0) (completed k 0)).outcome ≡ 2 → ⊥
    go true e = omega (arith, e)
    go false e = omega (arith, e)

pub sheet_not_2 : (text : List ℕ) (room : ℕ) → (sheet_record text room).outcome ≡ 2 → ⊥
unfolding sheet_record
sheet_not_2 text room e = number_not_2 room (sheet_found text) e

-- the reader's refusal
pub stop_sheet : (text old : List ℕ) (r : Record) → r ≡ sheet_record text 2048 → (r.outcome ≡ 0 → ⊥)
    → (r ≡ text_record text (length old)) × (old ≡ text_answer text old)
unfolding text_record text_answer
stop_sheet text old r e h =
    let z : eqb (sheet_record text 2048).outcome 0 ≡ false =
    ne_eqb (sheet_record text 2048).outcome 0 (λ x. h (ap (λ (q : Record). q.outcome) e ∙ x)) in
    let t : eqb (sheet_record text 2048).outcome 2 ≡ false = ne_eqb (sheet_record text 2048).outcome 2 (sheet_not_2 text 2048) in
    (e ∙ rw z, rw (z, t) refl)

-- the solver's record and answer table
module _ (text : List ℕ) (accepted : (sheet_record text 2048).outcome ≡ 0) where
  text_solves : (answerRoom : ℕ) → text_record text answerRoom ≡ solve_record (row_numbers (sheet_rows text)) answerRoom 16384
  unfolding text_record
  text_solves answerRoom = rw (eq-eqb (sheet_record text 2048).outcome 0 accepted) refl

  pub solved : (old table : List ℕ) (r : Record) (out : List ℕ) → table ≡ row_numbers (sheet_rows text)
      → r ≡ solve_record table (length old) 16384 → out ≡ answer_after table old 16384
      → (r ≡ text_record text (length old)) × (out ≡ text_answer text old)
  unfolding text_answer answer_after
  solved old table r out t e o =
      let rows : rows_of table ≡ sheet_rows text = ap rows_of t ∙ rows_written (sheet_rows text) in
      let same : solve_record table (length old) 16384 ≡ text_record text (length old) =
      ap (λ (l : List ℕ). solve_record l (length old) 16384) t ∙ sym (text_solves (length old)) in
      (e ∙ same, o ∙ rw (same, rows) refl)

sheet_read : (text : List ℕ) → (program_record text).outcome ≡ 2 → (sheet_record text 2048).outcome ≡ 0
unfolding program_record text_record
sheet_read text e = go (eqb (sheet_record text 2048).outcome 0) refl e
  where
    go : (b : Bool) → eqb (sheet_record text 2048).outcome 0 ≡ b
        → (cond b (solve_record (row_numbers (sheet_rows text)) 24576 16384) (sheet_record text 2048)).outcome ≡ 2
        → (sheet_record text 2048).outcome ≡ 0
    go true z e = eqb-true (sheet_record text 2048).outcome 0 z
    go false z e = absurd (sheet_not_2 text 2048 e)

-- the program's record is that of an answer table with room for 24,576 numbers
pub program_is : (text old : List ℕ) → length old ≡ 24576 → text_record text (length old) ≡ program_record text
unfolding program_record
program_is text old room = ap (text_record text) room

-- For outcome 2 the answer table begins with the answer's rows, at most 4,096, and as many as the record's pieces.
module _ (text old : List ℕ) (room : length old ≡ 24576) (two : (program_record text).outcome ≡ 2) where
  numbers : List ℕ
  numbers = row_numbers (sheet_rows text)

  -- a work area
  abbrev work : List ℕ
  work = replicate 16384 0

  work-room : length work ≡ 16384
  work-room = length-replicate {A = ℕ} 16384 0

  is_solved : program_record text ≡ solve_record numbers 24576 16384
  unfolding numbers program_record
  is_solved = text_solves text (sheet_read text two) 24576

  accepted_2 : first_fault numbers ≡ Accepted
  accepted_2 =
      let e : (solve_record numbers 24576 16384).outcome ≡ 2 = ap (λ (r : Record). r.outcome) (sym is_solved) ∙ two in
      (solve_accepts numbers 24576 16384 (omega arith) (omega arith)).to (omega arith)

  is_record : program_record text ≡ answer_record (rows_of numbers)
  is_record =
      is_solved ∙ ap₂ (solve_record numbers) (sym room) (sym work-room)
      ∙ call_record numbers accepted_2 old work (omega arith) (omega (arith, work-room))

  two_answer : (answer_record (rows_of numbers)).outcome ≡ 2
  two_answer = ap (λ (r : Record). r.outcome) (sym is_record) ∙ two

  pub pieces_fit : (program_record text).pieces ≤ 4096
  unfolding solved_rows
  pieces_fit =
      let t = rows_of numbers in
      let small : bits_of t ≤ 4096 = table_bits numbers accepted_2 in
      omega (
        arith,
        ap (λ (r : Record). r.pieces) is_record,
        (demand_3 numbers accepted_2).solved_pieces two_answer,
        rows_few (bits_of t) (variable_widths t) (equal_under (bits_of t) (satisfies t)),
      )

  pub answer-taken : take ((program_record text).pieces * 6) (text_answer text old) ≡ answer_numbers (solved_rows (sheet_rows text))
  unfolding numbers
  answer-taken =
      let after : answer_after numbers old (length work) ≡ text_answer text old =
      ap (answer_after numbers old) work-room ∙ (solved text (sheet_read text two) old numbers _ _ refl refl refl).1 in
      ap₂ (λ (r : Record) (l : List ℕ). take (r.pieces * 6) l) is_record (sym after)
      ∙ call_answer numbers accepted_2 old work (omega arith) (omega (arith, work-room)) two_answer
      ∙ ap (λ (t : List Row). answer_numbers (solved_rows t)) (rows_written (sheet_rows text))
