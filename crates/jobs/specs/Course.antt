-- The course of a job: its calls one after the other, and what the theorems say of them (document 02, (viii)). They speak of the calls' own definitions, composed.
use Rattle.std.specs.Prelude.{◌≡◌, ◌≢◌, true, List, ℕ, zero, suc, ◌≤◌, length}
use Rattle.terms.specs.declared.Record.{Record}
use Rattle.terms.specs.declared.Row.{Row}
use Rattle.terms.specs.Acceptance.{Exactly}
use Rattle.terms.specs.Calls.{refusal}
use Rattle.terms.specs.Faults.{Accepted, first_fault}
use Rattle.terms.specs.Table.{rows_of, row_numbers, bits_of, count_kind}
use Rattle.answers.specs.Demands.{Demand2, Demand3}
use Rattle.answers.specs.Solve.{unsatisfiable, unsat_row, always_record, answer_record, solve_record, answer_after}
use Rattle.jobs.specs.declared.Job.{Job}
use Rattle.jobs.specs.Prefix.{up_to}
use Rattle.jobs.specs.State.{never_row}
use Rattle.jobs.specs.Call.{open_record, open_job, open_work, step_record, step_job, step_work, job_answer_record, job_answer_after}
use Rattle.jobs.specs.Claims.{equation_row}

-- What is lent to each call of a job.
pub record Lent : Type 0 where
  pub job : Job
  pub work : List ℕ

-- What opening leaves of it, what a step leaves, and what a step returns.
unfoldable pub after_open : List ℕ → Lent → Lent
after_open table lent = record { job = open_job table lent.job.next lent.job.ties (length lent.work); work = open_work table lent.work }

unfoldable pub after_step : List ℕ → Lent → Lent
after_step table lent =
    record { job = step_job table lent.job.next lent.job.ties lent.work; work = step_work table lent.job.next lent.job.ties lent.work }

unfoldable pub step_told : List ℕ → Lent → Record
step_told table lent = step_record table lent.job.next lent.job.ties lent.work

-- What an answer returns where the answer table has room for so many numbers, and what it leaves of the answer table.
unfoldable pub answer_told : List ℕ → Lent → ℕ → Record
answer_told table lent answerRoom = job_answer_record table lent.job.next lent.job.ties lent.work answerRoom

unfoldable pub answer_left : List ℕ → Lent → List ℕ → List ℕ
answer_left table lent old = job_answer_after table lent.job.next lent.job.ties lent.work old

-- What opening and k steps leave.
unfoldable pub after_steps : List ℕ → Lent → ℕ → Lent
after_steps table lent zero = after_open table lent
after_steps table lent (suc k) = after_step table (after_steps table lent k)

-- (b) Step and answer refuse 44 exactly what opening and k steps leave for no k, however large, whatever was lent to the opening.
pub record ReachedExactly (table : List ℕ) (first lent : Lent) : Type 0 where
  pub step_44 : Exactly (step_told table lent ≡ refusal 44 0) ((k : ℕ) → after_steps table first k ≡ lent → ⊥)
  pub answer_44 : (answerRoom : ℕ) → 24576 ≤ answerRoom → Exactly (answer_told table lent answerRoom ≡ refusal 44 0) ((k : ℕ) → after_steps table first k ≡ lent → ⊥)

-- (c) After a step for each equation the last record is that of a solve of the table, and so are an answer's record and the answer table; in a table with a never
-- every step from its equation on returns that record.
pub record AllSteps (table : List ℕ) (lent : Lent) (answerRoom : ℕ) : Type 0 where
  pub no_equation : count_kind 4 (rows_of table) ≡ 0 → open_record table (length lent.work) ≡ solve_record table answerRoom (length lent.work)
  pub last_step : (k : ℕ) → count_kind 4 (rows_of table) ≡ suc k → step_told table (after_steps table lent k) ≡ solve_record table answerRoom (length lent.work)
  pub answer-record : answer_told table (after_steps table lent (count_kind 4 (rows_of table))) answerRoom ≡ solve_record table answerRoom (length lent.work)
  pub answer-table : (old : List ℕ) → length old ≡ answerRoom
      → answer_left table (after_steps table lent (count_kind 4 (rows_of table))) old ≡ answer_after table old (length lent.work)
  pub never_again : unsatisfiable (rows_of table) ≡ true → (k : ℕ) → unsat_row (rows_of table) ≤ equation_row (rows_of table) k
      → step_told table (after_steps table lent k) ≡ solve_record table answerRoom (length lent.work)

-- (d) The table of the answer so far: with the equations from the next row on left off; after a never the whole table.
unfoldable pub so_far : List ℕ → Lent → List Row
so_far table lent = up_to lent.job.next (rows_of table)

-- Written as numbers it is accepted, and a solve of it returns and writes what an answer does, and what the step that led there returned; so demands 2 and 3 hold of it.
pub record AnswerSoFar (table : List ℕ) (first : Lent) (k answerRoom : ℕ) : Type 0 where
  pub whole : (after_steps table first k).job.next ≡ never_row → so_far table (after_steps table first k) ≡ rows_of table
  pub accepted : first_fault (row_numbers (so_far table (after_steps table first k))) ≡ Accepted
  pub record_is : answer_told table (after_steps table first k) answerRoom
      ≡ solve_record (row_numbers (so_far table (after_steps table first k))) answerRoom (length first.work)
  pub table_is : (old : List ℕ) → length old ≡ answerRoom
      → answer_left table (after_steps table first k) old ≡ answer_after (row_numbers (so_far table (after_steps table first k))) old (length first.work)
  pub opening_is : open_record table (length first.work) ≡ solve_record (row_numbers (so_far table (after_steps table first 0))) answerRoom (length first.work)
  pub step_is : (after_steps table first k).job.next ≢ length (rows_of table)
      → step_told table (after_steps table first k)
      ≡ solve_record (row_numbers (so_far table (after_steps table first (suc k)))) answerRoom (length first.work)
  pub demand_2 : (answer_record (so_far table (after_steps table first k))).outcome ≡ 2 → Demand2 (so_far table (after_steps table first k))
  pub demand_3 : Demand3 (so_far table (after_steps table first k))

-- The record of an opening that is not refused: always, with every variable bit free.
abbrev pub OpensAlways : List ℕ → ℕ → Type 0
OpensAlways table work_room = open_record table work_room ≡ always_record (bits_of (rows_of table))
