-- The calls that return a record, and the program, together: what is said of every one of them for every input (document 01, "Where a call
-- stops"; document 02, (iii)), in proofs/Outcomes.antt and proofs/Refusals.antt. That their contracts say the same is linkwords/proofs/Calls.antt,
-- of the program solve/proofs/Calls.antt.
use Rattle.std.specs.Prelude.{◌≡◌, Bool, ◌||◌, cond, List, [], ◌∷◌, ◌⊎◌, ℕ, ◌≤◌, eqb, length, replicate}
use Rattle.terms.specs.declared.Record.{Record}
use Rattle.terms.specs.declared.Row.{Row}
use Rattle.terms.specs.Calls.{refusal}
use Rattle.terms.specs.Faults.{Accepted, first_fault}
use Rattle.terms.specs.Table.{row_numbers}
use Rattle.terms.specs.Value.{value_record, value_after}
use Rattle.forms.specs.Call.{form_record, form_after}
use Rattle.sheets.specs.Call.{sheet_record, table_after}
use Rattle.sheets.specs.Program.{program_record}
use Rattle.answers.specs.Solve.{solve_record, answer_after, work_after}
use Rattle.assignments.specs.Matching.{make_record, make_after, make_work}
use Rattle.windows.specs.Call.{positions_record, positions_after}
use Rattle.recordings.specs.Call.{recordings_record}
use Rattle.inclusion.specs.Call.{compare_record, compare_work}
use Rattle.jobs.specs.Call.{open_record, open_job, open_work, step_record, step_job, step_work, job_answer_record, job_answer_after}

-- A call with all that it is lent, in its order, a job as its two numbers; the program with the text that it has read.
pub data Call : Type 0 where
  lw-value : (table : List ℕ) (row : ℕ) (pattern value : List ℕ) → Call
  lw-normal-form : (table : List ℕ) (row : ℕ) (form : List ℕ) → Call
  lw-read-sheet : (sheet table : List ℕ) → Call
  lw-solve : (table answer work : List ℕ) → Call
  lw-solve-pieces : (table answer work : List ℕ) → Call
  lw-make-pattern : (table answer fresh pattern work : List ℕ) → Call
  lw-marker-positions : (table words list : List ℕ) → Call
  lw-compare-recordings : (table sent received : List ℕ) → Call
  lw-compare-tables : (first second work : List ℕ) → Call
  lw-value-rows : (rows : List Row) (row : ℕ) (pattern value : List ℕ) → Call
  lw-normal-form-rows : (rows : List Row) (row : ℕ) (form : List ℕ) → Call
  lw-solve-rows : (rows : List Row) (answer work : List ℕ) → Call
  lw-job-open : (table : List ℕ) (next ties : ℕ) (work : List ℕ) → Call
  lw-job-step : (table : List ℕ) (next ties : ℕ) (work : List ℕ) → Call
  lw-job-preview : (table : List ℕ) (next ties : ℕ) (work : List ℕ) → Call
  lw-job-answer : (table : List ℕ) (next ties : ℕ) (work answer : List ℕ) → Call
  program : (text : List ℕ) → Call

-- The record that it returns, or prints, as its contract says.
abbrev pub record_of : Call → Record
record_of (lw-value table row pattern value) = value_record table row pattern (length value)
record_of (lw-normal-form table row form) = form_record table row (length form)
record_of (lw-read-sheet sheet table) = sheet_record sheet (length table)
record_of (lw-solve table answer work) = solve_record table (length answer) (length work)
record_of (lw-solve-pieces table answer work) = solve_record table (length answer) (length work)
record_of (lw-make-pattern table answer fresh pattern work) = make_record table answer fresh (length pattern) (length work)
record_of (lw-marker-positions table words list) = positions_record table words
record_of (lw-compare-recordings table sent received) = recordings_record table sent received
record_of (lw-compare-tables first second work) = compare_record first second (length work)
record_of (lw-value-rows rows row pattern value) = value_record (row_numbers rows) row pattern (length value)
record_of (lw-normal-form-rows rows row form) = form_record (row_numbers rows) row (length form)
record_of (lw-solve-rows rows answer work) = solve_record (row_numbers rows) (length answer) (length work)
record_of (lw-job-open table next ties work) = open_record table (length work)
record_of (lw-job-step table next ties work) = step_record table next ties work
record_of (lw-job-preview table next ties work) = step_record table next ties work
record_of (lw-job-answer table next ties work answer) = job_answer_record table next ties work (length answer)
record_of (program text) = program_record text

-- What is lent to be written, before the call; a job as the list of its two numbers.
abbrev pub lent_to : Call → List (List ℕ)
lent_to (lw-value table row pattern value) = value ∷ []
lent_to (lw-normal-form table row form) = form ∷ []
lent_to (lw-read-sheet sheet table) = table ∷ []
lent_to (lw-solve table answer work) = answer ∷ work ∷ []
lent_to (lw-solve-pieces table answer work) = answer ∷ work ∷ []
lent_to (lw-make-pattern table answer fresh pattern work) = pattern ∷ work ∷ []
lent_to (lw-marker-positions table words list) = list ∷ []
lent_to (lw-compare-recordings table sent received) = []
lent_to (lw-compare-tables first second work) = work ∷ []
lent_to (lw-value-rows rows row pattern value) = value ∷ []
lent_to (lw-normal-form-rows rows row form) = form ∷ []
lent_to (lw-solve-rows rows answer work) = answer ∷ work ∷ []
lent_to (lw-job-open table next ties work) = (next ∷ ties ∷ []) ∷ work ∷ []
lent_to (lw-job-step table next ties work) = (next ∷ ties ∷ []) ∷ work ∷ []
lent_to (lw-job-preview table next ties work) = []
lent_to (lw-job-answer table next ties work answer) = answer ∷ []
lent_to (program text) = []

-- The same after the call, as its contract says.
abbrev pub left_by : Call → List (List ℕ)
left_by (lw-value table row pattern value) = value_after table row pattern value ∷ []
left_by (lw-normal-form table row form) = form_after table row form ∷ []
left_by (lw-read-sheet sheet table) = table_after sheet table ∷ []
left_by (lw-solve table answer work) = answer_after table answer (length work) ∷ work_after table (length answer) work ∷ []
left_by (lw-solve-pieces table answer work) = answer_after table answer (length work) ∷ work_after table (length answer) work ∷ []
left_by (lw-make-pattern table answer fresh pattern work) =
    make_after table answer fresh pattern (length work) ∷ make_work table answer fresh (length pattern) work ∷ []
left_by (lw-marker-positions table words list) = positions_after table words list ∷ []
left_by (lw-compare-recordings table sent received) = []
left_by (lw-compare-tables first second work) = compare_work first second work ∷ []
left_by (lw-value-rows rows row pattern value) = value_after (row_numbers rows) row pattern value ∷ []
left_by (lw-normal-form-rows rows row form) = form_after (row_numbers rows) row form ∷ []
left_by (lw-solve-rows rows answer work) = answer_after (row_numbers rows) answer (length work) ∷ work_after (row_numbers rows) (length answer) work ∷ []
left_by (lw-job-open table next ties work) =
    ((open_job table next ties (length work)).next ∷ (open_job table next ties (length work)).ties ∷ []) ∷ open_work table work ∷ []
left_by (lw-job-step table next ties work) =
    ((step_job table next ties work).next ∷ (step_job table next ties work).ties ∷ []) ∷ step_work table next ties work ∷ []
left_by (lw-job-preview table next ties work) = []
left_by (lw-job-answer table next ties work answer) = job_answer_after table next ties work answer ∷ []
left_by (program text) = []

-- The refusals behind 33 of a pattern call, which clear its work area.
unfoldable pub clears : ℕ → Bool
clears number = eqb number 46 || eqb number 34 || eqb number 32

-- What a refusal with this number leaves of what is lent: all as it was. The one exception (document 02, (x)): a pattern call that is refused 46, 34 or 32
-- has got past 33, and leaves every number of its work area 0.
abbrev pub left_refused : ℕ → Call → List (List ℕ)
left_refused number (lw-value table row pattern value) = lent_to (lw-value table row pattern value)
left_refused number (lw-normal-form table row form) = lent_to (lw-normal-form table row form)
left_refused number (lw-read-sheet sheet table) = lent_to (lw-read-sheet sheet table)
left_refused number (lw-solve table answer work) = lent_to (lw-solve table answer work)
left_refused number (lw-solve-pieces table answer work) = lent_to (lw-solve-pieces table answer work)
left_refused number (lw-make-pattern table answer fresh pattern work) = pattern ∷ cond (clears number) (replicate (length work) 0) work ∷ []
left_refused number (lw-marker-positions table words list) = lent_to (lw-marker-positions table words list)
left_refused number (lw-compare-recordings table sent received) = lent_to (lw-compare-recordings table sent received)
left_refused number (lw-compare-tables first second work) = lent_to (lw-compare-tables first second work)
left_refused number (lw-value-rows rows row pattern value) = lent_to (lw-value-rows rows row pattern value)
left_refused number (lw-normal-form-rows rows row form) = lent_to (lw-normal-form-rows rows row form)
left_refused number (lw-solve-rows rows answer work) = lent_to (lw-solve-rows rows answer work)
left_refused number (lw-job-open table next ties work) = lent_to (lw-job-open table next ties work)
left_refused number (lw-job-step table next ties work) = lent_to (lw-job-step table next ties work)
left_refused number (lw-job-preview table next ties work) = lent_to (lw-job-preview table next ties work)
left_refused number (lw-job-answer table next ties work answer) = lent_to (lw-job-answer table next ties work answer)
left_refused number (program text) = lent_to (program text)

-- A call is refused with this record and leaves what a refusal leaves. The outcome of a call that is not refused is 0 to 3; the number of a refusal
-- is 10 or above, and the other numbers of its record are 0 but row.
pub record RefusedWith (found : Record) (c : Call) : Type 0 where
  pub record_is : record_of c ≡ found
  pub high : 10 ≤ found.outcome
  pub alone : found ≡ refusal found.outcome found.row
  pub left : left_by c ≡ left_refused found.outcome c

-- Whether a call takes this term table and comes to look at it: a solve, a pattern call, a comparison of tables or a call of a job has the room that it asks
-- for before (10), and such a comparison looks at its second table if its first is accepted. One line for each call.
abbrev pub Takes : List ℕ → Call → Type 0
Takes t (lw-value table row pattern value) = table ≡ t
Takes t (lw-normal-form table row form) = table ≡ t
Takes t (lw-read-sheet sheet table) = ⊥
Takes t (lw-solve table answer work) = (table ≡ t) × (24576 ≤ length answer) × (16384 ≤ length work)
Takes t (lw-solve-pieces table answer work) = (table ≡ t) × (24576 ≤ length answer) × (16384 ≤ length work)
Takes t (lw-make-pattern table answer fresh pattern work) = (table ≡ t) × (16384 ≤ length work)
Takes t (lw-marker-positions table words list) = table ≡ t
Takes t (lw-compare-recordings table sent received) = table ≡ t
Takes t (lw-compare-tables first second work) = ((first ≡ t) ⊎ ((first_fault first ≡ Accepted) × (second ≡ t))) × (16384 ≤ length work)
Takes t (lw-value-rows rows row pattern value) = row_numbers rows ≡ t
Takes t (lw-normal-form-rows rows row form) = row_numbers rows ≡ t
Takes t (lw-solve-rows rows answer work) = (row_numbers rows ≡ t) × (24576 ≤ length answer) × (16384 ≤ length work)
Takes t (lw-job-open table next ties work) = (table ≡ t) × (16384 ≤ length work)
Takes t (lw-job-step table next ties work) = (table ≡ t) × (16384 ≤ length work)
Takes t (lw-job-preview table next ties work) = (table ≡ t) × (16384 ≤ length work)
Takes t (lw-job-answer table next ties work answer) = (table ≡ t) × (16384 ≤ length work) × (24576 ≤ length answer)
Takes t (program text) = ⊥

-- A table is refused with this record by each call that takes one, and all is left as it was.
abbrev pub RefusedByEach : List ℕ → Record → Type 0
RefusedByEach t found = (c : Call) → Takes t c → RefusedWith found c × (left_by c ≡ lent_to c)
