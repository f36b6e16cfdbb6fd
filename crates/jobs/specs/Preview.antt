-- What the theorems say of a preview (document 02, (ix)). It returns what a step would return, so they speak of the step's record.
use Rattle.std.specs.Prelude.{◌≡◌, ◌≢◌, List, ℕ, suc, ◌<◌, length}
use Rattle.terms.specs.declared.Row.{Row}
use Rattle.terms.specs.Acceptance.{Exactly}
use Rattle.terms.specs.Assignments.{Assignment}
use Rattle.terms.specs.Calls.{refusal}
use Rattle.terms.specs.Counting.{MeetsBefore, SidesEqual}
use Rattle.terms.specs.Table.{rows_of, bits_of}
use Rattle.answers.specs.Solve.{ties_to, never_record}
use Rattle.jobs.specs.State.{never_row}
use Rattle.jobs.specs.Course.{Lent, after_steps, step_told, answer_told}

-- (b) After k steps a preview returns the record of the answer after one step more, where an equation is left or a never was met; so a never from the never on. Else it
-- is refused 45.
pub record ComesTrue (table : List ℕ) (first : Lent) (k answerRoom : ℕ) : Type 0 where
  pub next_answer : (after_steps table first k).job.next ≢ length (rows_of table)
      → step_told table (after_steps table first k) ≡ answer_told table (after_steps table first (suc k)) answerRoom
  pub never_again : (after_steps table first k).job.next ≡ never_row → (step_told table (after_steps table first k)).outcome ≡ 1
  pub none_left : (after_steps table first k).job.next ≡ length (rows_of table) → step_told table (after_steps table first k) ≡ refusal 45 0

-- No pattern that meets the equations before row r has equal filled sides in the equation of row r.
abbrev pub NoneWith : List Row → ℕ → Type 0
NoneWith t r = (p : List ℕ) → Assignment (bits_of t) p → MeetsBefore t r p → SidesEqual t p r → ⊥

-- (c) Before a never and with an equation left, a preview tells never exactly if no pattern that meets the equations taken has equal filled sides in the next one. Then
-- it tells that equation's row and the job's ties; and else the ties with that equation taken too, so that the job's ties less are what it brings.
pub record Foretells (table : List ℕ) (lent : Lent) : Type 0 where
  pub never_exactly : Exactly ((step_told table lent).outcome ≡ 1) (NoneWith (rows_of table) lent.job.next)
  pub never-record : (step_told table lent).outcome ≡ 1 → step_told table lent ≡ never_record lent.job.ties lent.job.next
  pub ties_with : (step_told table lent).outcome ≢ 1 → (step_told table lent).ties ≡ ties_to (rows_of table) (suc lent.job.next)
  pub ties_without : lent.job.ties ≡ ties_to (rows_of table) lent.job.next
