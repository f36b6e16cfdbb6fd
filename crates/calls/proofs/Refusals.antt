-- Refusals of every call (document 01, "Where a call stops"): a refusal's record has no number but its own and a row, and what is lent stays
-- as it was, but for the work area of a pattern call that gets past 33; a refused table is refused by each call that takes one. Assumes nothing.
use mathlib.Core.Path.{◌≡◌, refl, sym, ◌∙◌, ap, ap₂, subst}
use mathlib.Core.Bool.{Bool, true, false, ◌||◌, cond}
use mathlib.Core.List.{List, [], ◌∷◌}
use mathlib.Core.Logic.{◌⊎◌, inl, inr, ◌≢◌}
use Prim.Native.Nat.{ℕ, ◌≤◌}
use native.Mathlib.Omega.{arith}
use lib.Dec.{eqb}
use lib.ListN.{length, replicate}
use borrow.Author.Tests.{eqb-true, eqb-false, ne_eqb, le-ltb}
use Rattle.terms.specs.declared.Record.{Record}
use Rattle.std.specs.Prelude.{Ok, Err}
use Rattle.terms.specs.declared.Fault.TheVariants.{Shape, Kind, Unused, Named, Width, Value, Bounds, Count}
use Rattle.terms.specs.Table.{rows_of, row_numbers}
use Rattle.terms.specs.Faults.{Found, Accepted, first_fault, is_accepted}
use Rattle.terms.specs.Calls.{refusal, fault_number, fault_record, stop_at, stopped}
use Rattle.terms.specs.Value.{value_record, value_after}
use Rattle.terms.proofs.AcceptedTable.{fault_high}
use Rattle.terms.proofs.Stopping.{goes-on}
use Rattle.forms.specs.Call.{form_record, form_after}
use Rattle.sheets.specs.Call.{sheet_record, table_after}
use Rattle.answers.specs.Solve.{solve_record, answer_after, work_after}
use Rattle.assignments.specs.Matching.{make_stops, make_record, make_after, make_work, WorkAfter}
use Rattle.assignments.proofs.Matched.{refused_output, work-after}
use Rattle.windows.specs.Call.{positions_record, positions_after}
use Rattle.recordings.specs.Call.{recordings_record}
use Rattle.inclusion.specs.Call.{comparison, compare_stops, compared_record, compare_record, compare_work}
use Rattle.inclusion.proofs.Patterns.{one_of_four}
use Rattle.inclusion.proofs.Stops.{stop_first, stop_second}
use Rattle.jobs.specs.Call.{open_record, step_record, job_answer_record, job_answer_after}
use Rattle.jobs.specs.Course.{Lent, after_open, after_step, step_told, answer_told, answer_left}
use Rattle.jobs.proofs.Refusals.{refuses, untouched}
use Rattle.calls.specs.Calls.{Call, lw-value, lw-normal-form, lw-read-sheet, lw-solve, lw-solve-pieces, lw-make-pattern, lw-marker-positions, lw-compare-recordings, lw-compare-tables, lw-value-rows, lw-normal-form-rows, lw-solve-rows, lw-job-open, lw-job-step, lw-job-preview, lw-job-answer, program, record_of, lent_to, left_by, clears, left_refused, RefusedWith, Takes, RefusedByEach}
use Rattle.calls.proofs.Outcomes.{of_every_record}

-- ---- what is lent stays as it was
value_left : (table : List ℕ) (row : ℕ) (pattern value : List ℕ) → 4 ≤ (value_record table row pattern (length value)).outcome
    → value_after table row pattern value ≡ value
unfolding value_after
value_left table row pattern value l = rw (ne_eqb (value_record table row pattern (length value)).outcome 0 (omega arith)) refl

form_left : (table : List ℕ) (row : ℕ) (form : List ℕ) → 4 ≤ (form_record table row (length form)).outcome → form_after table row form ≡ form
unfolding form_after
form_left table row form l = rw (ne_eqb (form_record table row (length form)).outcome 0 (omega arith)) refl

table_left : (sheet table : List ℕ) → 4 ≤ (sheet_record sheet (length table)).outcome → table_after sheet table ≡ table
unfolding table_after
table_left sheet table l = rw (ne_eqb (sheet_record sheet (length table)).outcome 0 (omega arith)) refl

answer-left : (table answer : List ℕ) (room : ℕ) → 4 ≤ (solve_record table (length answer) room).outcome → answer_after table answer room ≡ answer
unfolding answer_after
answer-left table answer room l = rw (ne_eqb (solve_record table (length answer) room).outcome 2 (omega arith)) refl

work_left : (table : List ℕ) (room : ℕ) (work : List ℕ) → 4 ≤ (solve_record table room (length work)).outcome → work_after table room work ≡ work
unfolding work_after
work_left table room work l = rw (le-ltb (solve_record table room (length work)).outcome 3 (omega arith)) refl

pattern_left : (table answer fresh pattern : List ℕ) (room : ℕ) → 4 ≤ (make_record table answer fresh (length pattern) room).outcome
    → make_after table answer fresh pattern room ≡ pattern
pattern_left table answer fresh pattern room l = refused_output table answer fresh pattern room (omega arith)

-- the one exception
area_left : (table answer fresh : List ℕ) (room : ℕ) (work : List ℕ) → 4 ≤ (make_record table answer fresh room (length work)).outcome
    → make_work table answer fresh room work ≡ cond (clears (make_record table answer fresh room (length work)).outcome) (replicate (length work) 0) work
unfolding clears
area_left table answer fresh room work l = go _ _ _ refl refl refl
  where
    n : ℕ
    n = (make_record table answer fresh room (length work)).outcome

    after : WorkAfter table answer fresh room work
    after = work-after table answer fresh room work

    go : (a b c : Bool) → eqb n 46 ≡ a → eqb n 34 ≡ b → eqb n 32 ≡ c → make_work table answer fresh room work ≡ cond (a || b || c) (replicate (length work) 0) work
    go true b c e f g = after.past_33 (inl (eqb-true n 46 e))
    go false true c e f g = after.past_33 (inr (inl (eqb-true n 34 f)))
    go false false true e f g = after.past_33 (inr (inr (eqb-true n 32 g)))
    go false false false e f g = after.kept (omega arith) (eqb-false n 46 e) (eqb-false n 34 f) (eqb-false n 32 g)

list_left : (table words list : List ℕ) → 4 ≤ (positions_record table words).outcome → positions_after table words list ≡ list
unfolding positions_after
list_left table words list l = rw (ne_eqb (positions_record table words).outcome 0 (omega arith)) refl

area_kept : (first second work : List ℕ) → 4 ≤ (compare_record first second (length work)).outcome → compare_work first second work ≡ work
unfolding compare_record compare_work
area_kept first second work l = go (stopped (compare_stops first second (length work))) refl
  where
    go : (b : Bool) → stopped (compare_stops first second (length work)) ≡ b → cond b work (replicate (length work) 0) ≡ work
    go true e = refl
    go false e =
        let found = goes-on (compare_stops first second (length work)) (compared_record (comparison (rows_of first) (rows_of second))) e in
        absurd (omega (arith, l, ap (λ (r : Record). r.outcome) found, one_of_four (rows_of first) (rows_of second)))

-- a job and a work area as they are lent; and as lists of numbers
abbrev lent : ℕ → ℕ → List ℕ → Lent
lent next ties work = record { job = record { next = next; ties = ties }; work = work }

abbrev numbers : Lent → List (List ℕ)
numbers x = (x.job.next ∷ x.job.ties ∷ []) ∷ x.work ∷ []

open_left : (table : List ℕ) (next ties : ℕ) (work : List ℕ) → 4 ≤ (open_record table (length work)).outcome
    → left_by (lw-job-open table next ties work) ≡ lent_to (lw-job-open table next ties work)
unfolding after_open
open_left table next ties work l = ap numbers ((untouched table (lent next ties work) []).opening (omega arith))

step_left : (table : List ℕ) (next ties : ℕ) (work : List ℕ) → 4 ≤ (step_record table next ties work).outcome
    → left_by (lw-job-step table next ties work) ≡ lent_to (lw-job-step table next ties work)
unfolding after_step step_told
step_left table next ties work l = ap numbers ((untouched table (lent next ties work) []).step (omega arith))

so_far_left : (table : List ℕ) (next ties : ℕ) (work answer : List ℕ) → 4 ≤ (job_answer_record table next ties work (length answer)).outcome
    → job_answer_after table next ties work answer ≡ answer
unfolding answer_told answer_left
so_far_left table next ties work answer l = (untouched table (lent next ties work) answer).answer (omega arith)

one : {x y : List ℕ} → x ≡ y → x ∷ [] ≡ y ∷ []
one e = ap (λ (z : List ℕ). z ∷ []) e

two : {x y x' y' : List ℕ} → x ≡ y → x' ≡ y' → x ∷ x' ∷ [] ≡ y ∷ y' ∷ []
two e e' = ap₂ (λ (z z' : List ℕ). z ∷ z' ∷ []) e e'

left-by : (c : Call) → 4 ≤ (record_of c).outcome → left_by c ≡ left_refused (record_of c).outcome c
left-by (lw-value table row pattern value) l = one (value_left table row pattern value l)
left-by (lw-normal-form table row form) l = one (form_left table row form l)
left-by (lw-read-sheet sheet table) l = one (table_left sheet table l)
left-by (lw-solve table answer work) l = two (answer-left table answer (length work) l) (work_left table (length answer) work l)
left-by (lw-solve-pieces table answer work) l = two (answer-left table answer (length work) l) (work_left table (length answer) work l)
left-by (lw-make-pattern table answer fresh pattern work) l =
    two (pattern_left table answer fresh pattern (length work) l) (area_left table answer fresh (length pattern) work l)
left-by (lw-marker-positions table words list) l = one (list_left table words list l)
left-by (lw-compare-recordings table sent received) l = refl
left-by (lw-compare-tables first second work) l = one (area_kept first second work l)
left-by (lw-value-rows rows row pattern value) l = one (value_left (row_numbers rows) row pattern value l)
left-by (lw-normal-form-rows rows row form) l = one (form_left (row_numbers rows) row form l)
left-by (lw-solve-rows rows answer work) l = two (answer-left (row_numbers rows) answer (length work) l) (work_left (row_numbers rows) (length answer) work l)
left-by (lw-job-open table next ties work) l = open_left table next ties work l
left-by (lw-job-step table next ties work) l = step_left table next ties work l
left-by (lw-job-preview table next ties work) l = refl
left-by (lw-job-answer table next ties work answer) l = one (so_far_left table next ties work answer l)
left-by (program text) l = refl

-- Every call: an outcome above 3 is that of a refusal.
pub refusals : (c : Call) → 4 ≤ (record_of c).outcome → RefusedWith (record_of c) c
refusals c l =
    let told = of_every_record (λ r. 4 ≤ r.outcome → (10 ≤ r.outcome) × (r ≡ refusal r.outcome r.row)) (λ r m n. absurd (omega arith)) (λ n row m h k. (m, refl)) c l in
    record { record_is = refl; high = told.0; alone = told.1; left = left-by c l }

-- ---- a refused table

-- its number is none after which a pattern call clears its area
fault_keeps : (f : Found) → clears (fault_number f) ≡ false
unfolding clears
fault_keeps (Ok x) = refl
fault_keeps (Err Shape) = refl
fault_keeps (Err (Kind r)) = refl
fault_keeps (Err (Unused r)) = refl
fault_keeps (Err (Named r)) = refl
fault_keeps (Err (Width r)) = refl
fault_keeps (Err (Value r)) = refl
fault_keeps (Err (Bounds r)) = refl
fault_keeps (Err (Count r)) = refl

module _ (t : List ℕ) (h : is_accepted (first_fault t) ≡ false) where
  by_value : (row : ℕ) (pattern : List ℕ) (room : ℕ) → value_record t row pattern room ≡ fault_record (first_fault t)
  unfolding value_record stop_at
  by_value row pattern room = rw h refl

  by_form : (row room : ℕ) → form_record t row room ≡ fault_record (first_fault t)
  unfolding form_record stop_at
  by_form row room = rw h refl

  by_solve : (answer work : List ℕ) → 24576 ≤ length answer → 16384 ≤ length work → solve_record t (length answer) (length work) ≡ fault_record (first_fault t)
  unfolding solve_record stop_at
  by_solve answer work room memory = rw (le-ltb (length answer) 24576 room, le-ltb (length work) 16384 memory, h) refl

  by_make : (answer fresh : List ℕ) (room : ℕ) (work : List ℕ) → 16384 ≤ length work → make_record t answer fresh room (length work) ≡ fault_record (first_fault t)
  unfolding make_record make_stops stop_at
  by_make answer fresh room work memory = rw (le-ltb (length work) 16384 memory, h) refl

  by_positions : (words : List ℕ) → positions_record t words ≡ fault_record (first_fault t)
  unfolding positions_record stop_at
  by_positions words = rw h refl

  by_recordings : (sent received : List ℕ) → recordings_record t sent received ≡ fault_record (first_fault t)
  unfolding recordings_record stop_at
  by_recordings sent received = rw h refl

  at_fault : first_fault t ≢ Accepted
  at_fault e = omega (arith, fault_high (first_fault t) h, ap fault_number e)

  by_open : (next ties : ℕ) (work : List ℕ) → 16384 ≤ length work → open_record t (length work) ≡ fault_record (first_fault t)
  by_open next ties work memory = ((refuses t (lent next ties work) 0).opening memory).of_table at_fault

  by_step : (next ties : ℕ) (work : List ℕ) → 16384 ≤ length work → step_record t next ties work ≡ fault_record (first_fault t)
  unfolding step_told
  by_step next ties work memory = ((refuses t (lent next ties work) 0).step memory).of_table at_fault

  by_so_far : (next ties : ℕ) (work answer : List ℕ) → 16384 ≤ length work → 24576 ≤ length answer
      → job_answer_record t next ties work (length answer) ≡ fault_record (first_fault t)
  unfolding answer_told
  by_so_far next ties work answer memory room = ((refuses t (lent next ties work) (length answer)).answer memory room).of_table at_fault

  by_compare : (first second work : List ℕ) → (first ≡ t) ⊎ ((first_fault first ≡ Accepted) × (second ≡ t)) → 16384 ≤ length work
      → compare_record first second (length work) ≡ fault_record (first_fault t)
  by_compare first second work (inl e) memory = rw e (stop_first t second work memory h).record_is
  by_compare first second work (inr e) memory = rw e.1 (stop_second first t work memory e.0 h).record_is

  by_each : (c : Call) → Takes t c → record_of c ≡ fault_record (first_fault t)
  by_each (lw-value table row pattern value) e = rw e (by_value row pattern (length value))
  by_each (lw-normal-form table row form) e = rw e (by_form row (length form))
  by_each (lw-read-sheet sheet table) e = absurd e
  by_each (lw-solve table answer work) e = rw e.0 (by_solve answer work e.1 e.2)
  by_each (lw-solve-pieces table answer work) e = rw e.0 (by_solve answer work e.1 e.2)
  by_each (lw-make-pattern table answer fresh pattern work) e = rw e.0 (by_make answer fresh (length pattern) work e.1)
  by_each (lw-marker-positions table words list) e = rw e (by_positions words)
  by_each (lw-compare-recordings table sent received) e = rw e (by_recordings sent received)
  by_each (lw-compare-tables first second work) e = by_compare first second work e.0 e.1
  by_each (lw-value-rows rows row pattern value) e = rw e (by_value row pattern (length value))
  by_each (lw-normal-form-rows rows row form) e = rw e (by_form row (length form))
  by_each (lw-solve-rows rows answer work) e = rw e.0 (by_solve answer work e.1 e.2)
  by_each (lw-job-open table next ties work) e = rw e.0 (by_open next ties work e.1)
  by_each (lw-job-step table next ties work) e = rw e.0 (by_step next ties work e.1)
  by_each (lw-job-preview table next ties work) e = rw e.0 (by_step next ties work e.1)
  by_each (lw-job-answer table next ties work answer) e = rw e.0 (by_so_far next ties work answer e.1 e.2)
  by_each (program text) e = absurd e

  as_lent : (c : Call) → left_refused (fault_number (first_fault t)) c ≡ lent_to c
  as_lent (lw-value table row pattern value) = refl
  as_lent (lw-normal-form table row form) = refl
  as_lent (lw-read-sheet sheet table) = refl
  as_lent (lw-solve table answer work) = refl
  as_lent (lw-solve-pieces table answer work) = refl
  as_lent (lw-make-pattern table answer fresh pattern work) = rw (fault_keeps (first_fault t)) refl
  as_lent (lw-marker-positions table words list) = refl
  as_lent (lw-compare-recordings table sent received) = refl
  as_lent (lw-compare-tables first second work) = refl
  as_lent (lw-value-rows rows row pattern value) = refl
  as_lent (lw-normal-form-rows rows row form) = refl
  as_lent (lw-solve-rows rows answer work) = refl
  as_lent (lw-job-open table next ties work) = refl
  as_lent (lw-job-step table next ties work) = refl
  as_lent (lw-job-preview table next ties work) = refl
  as_lent (lw-job-answer table next ties work answer) = refl
  as_lent (program text) = refl

  -- Each call that takes the table is refused with the record of its first fault, and leaves all as it was.
  pub refused_by_each : RefusedByEach t (fault_record (first_fault t))
  refused_by_each c e =
      let k : RefusedWith (fault_record (first_fault t)) c =
      subst (λ (found : Record). RefusedWith found c) (by_each c e)
      (refusals c (omega (arith, ap (λ (r : Record). r.outcome) (by_each c e), fault_high (first_fault t) h))) in
      (k, k.left ∙ as_lent c)
