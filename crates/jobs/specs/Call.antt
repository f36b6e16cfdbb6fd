-- What the calls of a job return and leave in the job and in the buffers lent to them, for every input (document 02, (viii)). A refused call changes nothing.
use Rattle.std.specs.Prelude.{Bool, not, ◌&&◌, ◌||◌, cond, List, [], ◌∷◌, ℕ, suc, eqb, ltb, length, take}
use Rattle.terms.specs.declared.Record.{Record}
use Rattle.terms.specs.declared.Row.{Row}
use Rattle.terms.specs.Table.{rows_of, bits_of, some_row}
use Rattle.terms.specs.Faults.{is_accepted, first_fault}
use Rattle.terms.specs.Calls.{refusal, fault_record, stop_at, stopped}
use Rattle.laws.specs.Buffers.{overwrite}
use Rattle.answers.specs.Answer.{answer_numbers}
use Rattle.answers.specs.Solve.{solved_rows, answer_record}
use Rattle.jobs.specs.declared.Job.{Job}
use Rattle.jobs.specs.Prefix.{up_to}
use Rattle.jobs.specs.State.{State, opened, stepped, area_of, reachable}

-- 43: an equation with a line number
unfoldable pub has_line : Row → Bool
has_line r = eqb r.kind 4 && ltb 0 r.c

unfoldable pub breaks43 : List Row → Bool
breaks43 t = some_row has_line t

-- 44: a job and a work area that no number of steps from the opening leaves together
unfoldable pub breaks44 : List Row → ℕ → ℕ → List ℕ → Bool
breaks44 t next ties work = not (reachable t next ties work)

-- 45: no equation left
unfoldable pub breaks45 : List Row → ℕ → Bool
breaks45 t next = eqb next (length t)

-- The numbers of a state that the job keeps; and the state that a job and a work area tell.
abbrev pub job_of : State → Job
job_of s = record { next = s.next; ties = s.ties }

abbrev pub state_of : List Row → ℕ → ℕ → List ℕ → State
state_of t next ties work = record { next = next; ties = ties; holders = take (bits_of t) work }

-- Opening: where the call stops, with a work area of so many numbers. 10: the work area below 16,384
unfoldable pub open_stops : List ℕ → ℕ → List (Bool × Record)
open_stops table work_room =
    (ltb work_room 16384, refusal 10 0)
    ∷ (not (is_accepted (first_fault table)), fault_record (first_fault table))
    ∷ (breaks43 (rows_of table), refusal 43 0)
    ∷ []

-- Its record is the answer's with no equation taken.
unfoldable pub open_record : List ℕ → ℕ → Record
open_record table work_room = stop_at (open_stops table work_room) (answer_record (up_to 0 (rows_of table)))

-- The job after it, whatever it held, and the work area.
unfoldable pub open_job : List ℕ → ℕ → ℕ → ℕ → Job
open_job table next ties work_room = cond (stopped (open_stops table work_room)) (record { next = next; ties = ties }) (job_of (opened (rows_of table)))

unfoldable pub open_work : List ℕ → List ℕ → List ℕ
open_work table work = cond (stopped (open_stops table (length work))) work (area_of (length work) (opened (rows_of table)).holders)

-- A step: where the call stops.
unfoldable pub step_stops : List ℕ → ℕ → ℕ → List ℕ → List (Bool × Record)
step_stops table next ties work =
    (ltb (length work) 16384, refusal 10 0)
    ∷ (not (is_accepted (first_fault table)), fault_record (first_fault table))
    ∷ (breaks43 (rows_of table), refusal 43 0)
    ∷ (breaks44 (rows_of table) next ties work, refusal 44 0)
    ∷ (breaks45 (rows_of table) next, refusal 45 0)
    ∷ []

-- Its record is the answer's with the equation of the next row taken too; after a never, which no row follows, that of the whole table.
unfoldable pub step_record : List ℕ → ℕ → ℕ → List ℕ → Record
step_record table next ties work = stop_at (step_stops table next ties work) (answer_record (up_to (suc next) (rows_of table)))

-- The job and the work area after it.
unfoldable pub step_job : List ℕ → ℕ → ℕ → List ℕ → Job
step_job table next ties work =
    cond (stopped (step_stops table next ties work))
    (record { next = next; ties = ties })
    (job_of (stepped (rows_of table) (state_of (rows_of table) next ties work)))

unfoldable pub step_work : List ℕ → ℕ → ℕ → List ℕ → List ℕ
step_work table next ties work =
    cond (stopped (step_stops table next ties work)) work
    (area_of (length work) (stepped (rows_of table) (state_of (rows_of table) next ties work)).holders)

-- The answer so far: where the call stops. 10: the work area below 16,384 or the answer table below 24,576
unfoldable pub job_answer_stops : List ℕ → ℕ → ℕ → List ℕ → ℕ → List (Bool × Record)
job_answer_stops table next ties work answerRoom =
    (ltb (length work) 16384 || ltb answerRoom 24576, refusal 10 0)
    ∷ (not (is_accepted (first_fault table)), fault_record (first_fault table))
    ∷ (breaks43 (rows_of table), refusal 43 0)
    ∷ (breaks44 (rows_of table) next ties work, refusal 44 0)
    ∷ []

-- Its record is the answer's with the equations before the next row taken; after a never, that of the whole table.
unfoldable pub job_answer_record : List ℕ → ℕ → ℕ → List ℕ → ℕ → Record
job_answer_record table next ties work answerRoom = stop_at (job_answer_stops table next ties work answerRoom) (answer_record (up_to next (rows_of table)))

-- The answer table after it: for outcome 2 the rows and then what was there; else what was there. Job and work area stay as they are.
unfoldable pub job_answer_after : List ℕ → ℕ → ℕ → List ℕ → List ℕ → List ℕ
job_answer_after table next ties work old =
    cond (eqb (job_answer_record table next ties work (length old)).outcome 2)
    (overwrite (answer_numbers (solved_rows (up_to next (rows_of table)))) old)
    old
