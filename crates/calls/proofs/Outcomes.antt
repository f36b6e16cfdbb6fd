-- What holds of every record with outcome 0 to 3, and of every refusal from 10 on but 18, holds of the record of every call: so no call
-- yields 18, whatever it is lent (document 02, (iii)). Assumes nothing.
use mathlib.Core.Path.{◌≡◌, refl}
use mathlib.Core.Bool.{Bool, true, false, cond}
use mathlib.Core.List.{List, [], ◌∷◌}
use mathlib.Core.Logic.{◌≢◌}
use Prim.Native.Nat.{ℕ, suc, ◌≤◌}
use native.Mathlib.Omega.{arith}
use lib.Dec.{eqb, ltb}
use Rattle.std.specs.Prelude.{Result, Ok, Err}
use Rattle.terms.specs.declared.Record.{Record}
use Rattle.terms.specs.declared.Row.{Row}
use Rattle.terms.specs.Table.{rows_of, row_numbers}
use Rattle.terms.specs.Faults.{Found, first_fault, is_accepted}
use Rattle.terms.specs.Calls.{refusal, fault_number, fault_row, fault_record, stop_at}
use Rattle.terms.specs.Value.{value_record}
use Rattle.terms.proofs.Acceptance.{fault_never_18}
use Rattle.terms.proofs.AcceptedTable.{fault_none, fault_high}
use Rattle.forms.specs.Call.{form_record}
use Rattle.sheets.specs.declared.SheetError.{SheetError}
use Rattle.sheets.specs.declared.SheetError.TheVariants.{TooLong, WrongNames, TooMany, WrongLine}
use Rattle.sheets.specs.Sheet.{sheet_found, sheet_rows}
use Rattle.sheets.specs.Call.{sheet_number, sheet_row, sheet_record}
use Rattle.sheets.specs.Program.{text_record, program_record}
use Rattle.answers.specs.Solve.{valid, unsatisfiable, answer_record, solve_record}
use Rattle.assignments.specs.Matching.{make_stops, make_record}
use Rattle.windows.specs.Call.{positions_record}
use Rattle.recordings.specs.Call.{recordings_record}
use Rattle.inclusion.specs.Call.{compare_stops, compare_record}
use Rattle.inclusion.proofs.Patterns.{one_of_four}
use Rattle.jobs.specs.Prefix.{up_to}
use Rattle.jobs.specs.Call.{open_stops, open_record, step_stops, step_record, job_answer_stops, job_answer_record}
use Rattle.calls.specs.Calls.{Call, lw-value, lw-normal-form, lw-read-sheet, lw-solve, lw-solve-pieces, lw-make-pattern, lw-marker-positions, lw-compare-recordings, lw-compare-tables, lw-value-rows, lw-normal-form-rows, lw-solve-rows, lw-job-open, lw-job-step, lw-job-preview, lw-job-answer, program, record_of}

-- A property of these records.
module _ (P : Record → Type 0) (fine : (r : Record) → r.outcome ≤ 3 → P r) (refused : (n row : ℕ) → 10 ≤ n → n ≢ 18 → P (refusal n row)) where
  -- each record of a list of conditions has it
  data All : List (Bool × Record) → Type 0 where
    none : All []
    more : {s : Bool × Record} {stops : List (Bool × Record)} → P s.1 → All stops → All (s ∷ stops)

  either : (b : Bool) (r s : Record) → P r → P s → P (cond b r s)
  either true r s h k = h
  either false r s h k = k

  -- the first condition that is met
  first : (stops : List (Bool × Record)) (accepted : Record) → All stops → P accepted → P (stop_at stops accepted)
  unfolding stop_at
  first stops accepted none k = k
  first stops accepted (more {s = s} {stops = rest} h hs) k = either s.0 s.1 (stop_at rest accepted) h (first rest accepted hs k)

  fault : (f : Found) → P (fault_record f)
  fault f = go (is_accepted f) refl
    where
      go : (b : Bool) → is_accepted f ≡ b → P (fault_record f)
      go true h = rw (fault_none f h) (fine _ (omega arith))
      go false h = refused (fault_number f) (fault_row f) (omega (arith, fault_high f h)) (fault_never_18 f)

  value : (table : List ℕ) (row : ℕ) (pattern : List ℕ) (room : ℕ) → P (value_record table row pattern room)
  unfolding value_record
  value table row pattern room =
      first _ _
      (more (fault (first_fault table)) (more (refused 30 0 (omega arith) (omega arith)) (more (refused 31 0 (omega arith) (omega arith)) (more (refused 32 0 (omega arith) (omega arith)) none))))
      (fine _ (omega arith))

  form : (table : List ℕ) (row room : ℕ) → P (form_record table row room)
  unfolding form_record
  form table row room =
      first _ _ (more (fault (first_fault table)) (more (refused 30 0 (omega arith) (omega arith)) (more (refused 32 0 (omega arith) (omega arith)) none))) (fine _ (omega arith))

  answer : (t : List Row) → P (answer_record t)
  unfolding answer_record
  answer t = either (valid t) _ _ (fine _ (omega arith)) (either (unsatisfiable t) _ _ (fine _ (omega arith)) (fine _ (omega arith)))

  solve : (table : List ℕ) (answerRoom work_room : ℕ) → P (solve_record table answerRoom work_room)
  unfolding solve_record
  solve table answerRoom work_room =
      first _ _ (more (refused 10 0 (omega arith) (omega arith)) (more (fault (first_fault table)) none)) (answer (rows_of table))

  pattern-made : (table answers fresh : List ℕ) (room work_room : ℕ) → P (make_record table answers fresh room work_room)
  unfolding make_record make_stops
  pattern-made table answers fresh room work_room =
      first _ _
      (more (refused 10 0 (omega arith) (omega arith))
      (more (fault (first_fault table))
      (more (refused 33 0 (omega arith) (omega arith))
      (more (refused 46 0 (omega arith) (omega arith)) (more (refused 34 0 (omega arith) (omega arith)) (more (refused 32 0 (omega arith) (omega arith)) none))))))
      (fine _ (omega arith))

  positions : (table words : List ℕ) → P (positions_record table words)
  unfolding positions_record
  positions table words =
      first _ _ (more (fault (first_fault table)) (more (refused 41 0 (omega arith) (omega arith)) (more (refused 42 0 (omega arith) (omega arith)) none))) (fine _ (omega arith))

  recordings : (table sent received : List ℕ) → P (recordings_record table sent received)
  unfolding recordings_record
  recordings table sent received =
      first _ _
      (more (fault (first_fault table))
      (more (refused 47 0 (omega arith) (omega arith))
      (more (refused 47 0 (omega arith) (omega arith))
      (more (refused 47 0 (omega arith) (omega arith)) (more (refused 48 0 (omega arith) (omega arith)) (more (refused 48 0 (omega arith) (omega arith)) none))))))
      (fine _ (omega arith))

  compare : (left right : List ℕ) (room : ℕ) → P (compare_record left right room)
  unfolding compare_record compare_stops
  compare left right room =
      first _ _
      (more (refused 10 0 (omega arith) (omega arith))
      (more (fault (first_fault left)) (more (fault (first_fault right)) (more (refused 49 0 (omega arith) (omega arith)) none))))
      (fine _ (one_of_four (rows_of left) (rows_of right)))

  job_open : (table : List ℕ) (room : ℕ) → P (open_record table room)
  unfolding open_record open_stops
  job_open table room =
      first _ _ (more (refused 10 0 (omega arith) (omega arith)) (more (fault (first_fault table)) (more (refused 43 0 (omega arith) (omega arith)) none)))
      (answer (up_to 0 (rows_of table)))

  job_step : (table : List ℕ) (next ties : ℕ) (work : List ℕ) → P (step_record table next ties work)
  unfolding step_record step_stops
  job_step table next ties work =
      first _ _
      (more (refused 10 0 (omega arith) (omega arith))
      (more (fault (first_fault table))
      (more (refused 43 0 (omega arith) (omega arith)) (more (refused 44 0 (omega arith) (omega arith)) (more (refused 45 0 (omega arith) (omega arith)) none)))))
      (answer (up_to (suc next) (rows_of table)))

  job_answer : (table : List ℕ) (next ties : ℕ) (work : List ℕ) (room : ℕ) → P (job_answer_record table next ties work room)
  unfolding job_answer_record job_answer_stops
  job_answer table next ties work room =
      first _ _
      (more (refused 10 0 (omega arith) (omega arith))
      (more (fault (first_fault table)) (more (refused 43 0 (omega arith) (omega arith)) (more (refused 44 0 (omega arith) (omega arith)) none))))
      (answer (up_to next (rows_of table)))

  found : (sheet : Result ℕ SheetError) → P (refusal (sheet_number sheet) (sheet_row sheet))
  found (Err TooLong) = refused 20 0 (omega arith) (omega arith)
  found (Err WrongNames) = refused 21 0 (omega arith) (omega arith)
  found (Err TooMany) = refused 23 512 (omega arith) (omega arith)
  found (Err (WrongLine k)) = refused 22 k (omega arith) (omega arith)
  found (Ok k) = fine _ (omega arith)

  sheet : (text : List ℕ) (room : ℕ) → P (sheet_record text room)
  unfolding sheet_record
  sheet text room =
      either (eqb (sheet_number (sheet_found text)) 0) _ _
      (either (ltb room 2048) _ _ (refused 32 0 (omega arith) (omega arith)) (fine _ (omega arith)))
      (found (sheet_found text))

  printed : (text : List ℕ) → P (program_record text)
  unfolding program_record text_record
  printed text = either (eqb (sheet_record text 2048).outcome 0) _ _ (solve (row_numbers (sheet_rows text)) 24576 16384) (sheet text 2048)

  pub of_every_record : (c : Call) → P (record_of c)
  of_every_record (lw-value table row pattern lent) = value table row pattern _
  of_every_record (lw-normal-form table row lent) = form table row _
  of_every_record (lw-read-sheet text lent) = sheet text _
  of_every_record (lw-solve table lent work) = solve table _ _
  of_every_record (lw-solve-pieces table lent work) = solve table _ _
  of_every_record (lw-make-pattern table rows fresh lent work) = pattern-made table rows fresh _ _
  of_every_record (lw-marker-positions table words lent) = positions table words
  of_every_record (lw-compare-recordings table sent received) = recordings table sent received
  of_every_record (lw-compare-tables left right lent) = compare left right _
  of_every_record (lw-value-rows rows row pattern lent) = value (row_numbers rows) row pattern _
  of_every_record (lw-normal-form-rows rows row lent) = form (row_numbers rows) row _
  of_every_record (lw-solve-rows rows lent work) = solve (row_numbers rows) _ _
  of_every_record (lw-job-open table next ties work) = job_open table _
  of_every_record (lw-job-step table next ties work) = job_step table _ _ _
  of_every_record (lw-job-preview table next ties work) = job_step table _ _ _
  of_every_record (lw-job-answer table next ties work lent) = job_answer table _ _ _ _
  of_every_record (program text) = printed text

-- No call yields 18, nor does the program.
pub never_18 : (c : Call) → (record_of c).outcome ≡ 18 → ⊥
never_18 = of_every_record (λ r. r.outcome ≢ 18) (λ r l e. omega arith) (λ n row l h. h)
