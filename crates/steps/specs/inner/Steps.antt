-- What the inner functions promise of a step, of the opening and of the answer so far, once the table is accepted and has no line number.
use Rattle.std.specs.Prelude.{◌≡◌, ⊤, Result, Ok, Err, Bool, true, false, ◌||◌, cond, List, [], ◌∷◌, ℕ, suc, ◌+◌, ◌/◌, ◌%◌, ◌≤◌, eqb, length, replicate}
use Rattle.laws.specs.Lists.{count_up}
use Rattle.laws.specs.Buffers.{overwrite}
use Rattle.terms.specs.declared.Record.{Record}
use Rattle.terms.specs.declared.Row.{Row}
use Rattle.terms.specs.Table.{rows_of, bits_of, next_equation}
use Rattle.terms.specs.Calls.{refusal, completed, stop_at, stopped}
use Rattle.terms.specs.inner.Placed.{Placed}
use Rattle.records.specs.declared.Refusal.{Refusal}
use Rattle.records.specs.Refusals.{refusal_record}
use Rattle.answers.specs.Answer.{answer_numbers}
use Rattle.answers.specs.Solve.{unsatisfiable, solved_rows, answer_record, ties_to}
use Rattle.jobs.specs.declared.Job.{Job}
use Rattle.jobs.specs.Prefix.{up_to, equation_from, holders}
use Rattle.jobs.specs.State.{stepped, area_of, never_row}
use Rattle.jobs.specs.Call.{breaks43, breaks44, breaks45, job_of, state_of, open_stops}
use Rattle.areas.specs.inner.Areas.{held_by}
use Rattle.states.specs.inner.Prefixes.{PrefixTaken}
use Rattle.states.specs.inner.Jobs.{Ready}

-- The next row after the equation of row r, where taking it ended at a row.
unfoldable pub next_row : List ℕ → ℕ → ℕ → ℕ
next_row table r row = cond (eqb row r) never_row (next_equation (rows_of table) (r + 1) (length table / 4) % 4294967296)

-- The equation of row r was taken after those before it.
pub record StepFrom (t : List Row) (r ties : ℕ) (links : List ℕ) (found : Record) (next ties' : ℕ) : Type 0 where
  pub found_is : found ≡ answer_record (up_to (suc r) t)
  pub lost : unsatisfiable (up_to (suc r) t) ≡ true → (next ≡ never_row) × (ties' ≡ ties)
  pub left : unsatisfiable (up_to (suc r) t) ≡ false → (next ≡ equation_from t (suc r)) × ((ties' ≡ ties_to t (suc r)) × (held_by links ≡ holders (up_to (suc r) t)))

abbrev pub StepsFrom : List ℕ → List ℕ → List ℕ → List ℕ → ℕ → ℕ → ℕ → ℕ → ℕ → List ℕ → List ℕ → Record → ℕ → ℕ → Type 0
StepsFrom table short widths places bits r ties leftRoom rightRoom links links' found next ties' =
    Ready table short widths places leftRoom rightRoom links → bits ≡ bits_of (rows_of table) → PrefixTaken (rows_of table) r links r ties
    → StepFrom (rows_of table) r ties links' found next ties'

-- A step of an accepted table without line numbers: where it stops, its record, the job and the work area after it.
unfoldable pub placed_stops : List Row → ℕ → ℕ → List ℕ → List (Bool × Record)
placed_stops t next ties work = (breaks44 t next ties work, refusal 44 0) ∷ (breaks45 t next, refusal 45 0) ∷ []

unfoldable pub placed_record : List Row → ℕ → ℕ → List ℕ → Record
placed_record t next ties work = stop_at (placed_stops t next ties work) (answer_record (up_to (suc next) t))

unfoldable pub placed_job : List Row → ℕ → ℕ → List ℕ → Job
placed_job t next ties work =
    cond (stopped (placed_stops t next ties work)) (record { next = next; ties = ties }) (job_of (stepped t (state_of t next ties work)))

unfoldable pub placed_work : List Row → ℕ → ℕ → List ℕ → List ℕ
placed_work t next ties work =
    cond (stopped (placed_stops t next ties work)) work (area_of (length work) (stepped t (state_of t next ties work)).holders)

-- Whether a record is that of a step that leaves a pattern: outcome 0 or 2.
unfoldable pub goes_on : ℕ → Bool
goes_on outcome = eqb outcome 0 || eqb outcome 2

-- A step was tried: nothing lent is written, and the links have the classes where it leaves a pattern.
pub record StepTried (t : List Row) (next ties : ℕ) (work links : List ℕ) (found : Record) (next' ties' : ℕ) : Type 0 where
  pub found_is : found ≡ placed_record t next ties work
  pub next_is : next' ≡ (placed_job t next ties work).next
  pub ties_are : ties' ≡ (placed_job t next ties work).ties
  pub on : goes_on found.outcome ≡ true → overwrite (held_by links) work ≡ placed_work t next ties work
  pub still : goes_on found.outcome ≡ false → work ≡ placed_work t next ties work

abbrev pub TriesStep : List ℕ → List ℕ → List ℕ → ℕ → ℕ → ℕ → List ℕ → List ℕ → List ℕ → Record → ℕ → ℕ → Type 0
TriesStep table widths places bits next ties work links links' found next' ties' =
    Placed table widths places → breaks43 (rows_of table) ≡ false → bits ≡ bits_of (rows_of table) → 16384 ≤ length work → length links ≡ suc (suc bits)
    → StepTried (rows_of table) next ties work links' found next' ties'

-- The step done.
pub record StepDone (t : List Row) (next ties : ℕ) (work work' : List ℕ) (found : Record) (next' ties' : ℕ) : Type 0 where
  pub found_is : found ≡ placed_record t next ties work
  pub next_is : next' ≡ (placed_job t next ties work).next
  pub ties_are : ties' ≡ (placed_job t next ties work).ties
  pub work_is : work' ≡ placed_work t next ties work

abbrev pub StepsPlaced : List ℕ → List ℕ → List ℕ → ℕ → ℕ → ℕ → List ℕ → List ℕ → Record → ℕ → ℕ → Type 0
StepsPlaced table widths places bits next ties work work' found next' ties' =
    Placed table widths places → breaks43 (rows_of table) ≡ false → bits ≡ bits_of (rows_of table) → 16384 ≤ length work
    → StepDone (rows_of table) next ties work work' found next' ties'

-- The record of the step, where nothing is written.
abbrev pub PreviewsPlaced : List ℕ → List ℕ → List ℕ → ℕ → ℕ → ℕ → List ℕ → Record → Type 0
PreviewsPlaced table widths places bits next ties work found =
    Placed table widths places → breaks43 (rows_of table) ≡ false → bits ≡ bits_of (rows_of table) → 16384 ≤ length work
    → found ≡ placed_record (rows_of table) next ties work

-- How a call of a job begins, with a work area of so many numbers: the first refusal that the opening has too; where it has none, the table is placed.
pub record Begun (table : List ℕ) (room : ℕ) (widths places : List ℕ) (begun : Result ⊤ Refusal) : Type 0 where
  pub refused : (e : Refusal) → begun ≡ Err e → (stopped (open_stops table room) ≡ true) × (refusal_record e ≡ stop_at (open_stops table room) (completed 0 0))
  pub goes : begun ≡ Ok tt → stopped (open_stops table room) ≡ false
  pub placed : begun ≡ Ok tt → Placed table widths places

abbrev pub Begins : List ℕ → ℕ → ℕ → ℕ → List ℕ → List ℕ → Result ⊤ Refusal → Type 0
Begins table room widthsRoom placesRoom widths places begun = 512 ≤ widthsRoom → 578 ≤ placesRoom → Begun table room widths places begun

-- The area of a job that is opened, with room for so many places: each holds itself, and all else is 0.
abbrev pub OpensArea : ℕ → List ℕ → List ℕ → Type 0
OpensArea bits work work' = bits ≤ 4096 → bits ≤ length work → work' ≡ overwrite (count_up 0 bits) (replicate (length work) 0)

-- The answer so far of an accepted table without line numbers: refused 44, or its record and its table.
pub record AnswerDone (t : List Row) (next ties : ℕ) (work answer answer' : List ℕ) (found : Record) : Type 0 where
  pub found_is : found ≡ cond (breaks44 t next ties work) (refusal 44 0) (answer_record (up_to next t))
  pub answer_is : answer' ≡ cond (eqb found.outcome 2) (overwrite (answer_numbers (solved_rows (up_to next t))) answer) answer

abbrev pub AnswersPlaced : List ℕ → List ℕ → List ℕ → ℕ → ℕ → ℕ → List ℕ → List ℕ → List ℕ → Record → Type 0
AnswersPlaced table widths places bits next ties work answer answer' found =
    Placed table widths places → breaks43 (rows_of table) ≡ false → bits ≡ bits_of (rows_of table) → 16384 ≤ length work → 24576 ≤ length answer
    → AnswerDone (rows_of table) next ties work answer answer' found
