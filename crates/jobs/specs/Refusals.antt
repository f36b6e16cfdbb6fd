-- What the theorems say of the refusals of a job's calls (document 02, (viii)): in their order, whatever else is wrong, and nothing lent is changed.
use Rattle.std.specs.Prelude.{◌≡◌, ◌≢◌, List, ℕ, ◌<◌, ◌≤◌, length}
use Rattle.terms.specs.declared.Record.{Record}
use Rattle.terms.specs.Acceptance.{Exactly}
use Rattle.terms.specs.Calls.{refusal, fault_record}
use Rattle.terms.specs.Counting.{IsLine}
use Rattle.terms.specs.Faults.{Accepted, first_fault}
use Rattle.terms.specs.Table.{rows_of}
use Rattle.jobs.specs.Call.{open_record}
use Rattle.jobs.specs.Course.{Lent, after_open, after_step, step_told, answer_told, answer_left, after_steps}

-- What a call with room returns: first the refusals of its table, then 43.
pub record Order (table : List ℕ) (told : Record) : Type 0 where
  pub of_table : first_fault table ≢ Accepted → told ≡ fault_record (first_fault table)
  pub line_number : first_fault table ≡ Accepted → (n r : ℕ) → 0 < n → IsLine (rows_of table) r n → told ≡ refusal 43 0

-- 10, whatever the table and the job; and behind it the others. An answer table counts for an answer alone.
pub record Refuses (table : List ℕ) (lent : Lent) (answerRoom : ℕ) : Type 0 where
  pub open_10 : length lent.work < 16384 → open_record table (length lent.work) ≡ refusal 10 0
  pub step_10 : length lent.work < 16384 → step_told table lent ≡ refusal 10 0
  pub answer_10 : length lent.work < 16384 → answer_told table lent answerRoom ≡ refusal 10 0
  pub no_answer_room : answerRoom < 24576 → answer_told table lent answerRoom ≡ refusal 10 0
  pub opening : 16384 ≤ length lent.work → Order table (open_record table (length lent.work))
  pub step : 16384 ≤ length lent.work → Order table (step_told table lent)
  pub answer : 16384 ≤ length lent.work → 24576 ≤ answerRoom → Order table (answer_told table lent answerRoom)

-- A call whose outcome is none of an answer's leaves what was lent as it was.
pub record Untouched (table : List ℕ) (lent : Lent) (old : List ℕ) : Type 0 where
  pub opening : 2 < (open_record table (length lent.work)).outcome → after_open table lent ≡ lent
  pub step : 2 < (step_told table lent).outcome → after_step table lent ≡ lent
  pub answer : 2 < (answer_told table lent (length old)).outcome → answer_left table lent old ≡ old

-- Of what opening and k steps leave, a step refuses 45 exactly that whose next row is the number of rows.
abbrev pub NoneLeft : List ℕ → Lent → ℕ → Type 0
NoneLeft table first k = Exactly (step_told table (after_steps table first k) ≡ refusal 45 0) ((after_steps table first k).job.next ≡ length (rows_of table))
