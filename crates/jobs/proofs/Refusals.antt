-- The refusals of a job's calls: in their order, and nothing lent is changed. Assumes nothing.
use mathlib.Core.Path.{◌≡◌, refl, ap}
use mathlib.Core.Logic.{◌≢◌}
use mathlib.Core.Bool.{Bool, true, false, or-true}
use mathlib.Core.List.{List}
use Prim.Native.Nat.{ℕ, ◌<◌, ◌≤◌}
use native.Mathlib.Omega.{arith}
use lib.Dec.{ltb}
use lib.ListN.{length}
use borrow.Author.Tests.{ne_eqb, lt-ltb, le-ltb}
use Rattle.terms.specs.declared.Record.{Record}
use Rattle.terms.specs.declared.Row.{Row}
use Rattle.terms.specs.Calls.{stop_at, stopped}
use Rattle.terms.specs.Counting.{IsLine}
use Rattle.terms.specs.Faults.{Accepted, is_accepted, first_fault}
use Rattle.terms.specs.Table.{rows_of}
use Rattle.terms.proofs.AcceptedTable.{fault_none}
use Rattle.terms.proofs.Stopping.{goes-on}
use Rattle.answers.specs.Solve.{valid, unsatisfiable, answer_record}
use Rattle.jobs.specs.Call.{breaks43, open_stops, open_record, open_job, open_work, step_stops, step_record, step_job, step_work, job_answer_stops, job_answer_record, job_answer_after}
use Rattle.jobs.specs.Course.{Lent, after_open, after_step, step_told, answer_told, answer_left}
use Rattle.jobs.specs.Refusals.{Refuses, Untouched}
use Rattle.jobs.proofs.LineNumbers.{no_lines}

-- an answer's outcome is 0, 1 or 2
pub answer_outcome : (t : List Row) → (answer_record t).outcome ≤ 2
unfolding answer_record
answer_outcome t = go (valid t) refl (unsatisfiable t) refl
  where
    go : (a : Bool) → valid t ≡ a → (b : Bool) → unsatisfiable t ≡ b → (answer_record t).outcome ≤ 2
    go true e b f = rw e (omega arith)
    go false e true f = rw (e, f) (omega arith)
    go false e false f = rw (e, f) (omega arith)

-- a call that does not stop returns an answer's record
goes_low : (stops : List (Bool × Record)) (t : List Row) → stopped stops ≡ false → 2 < (stop_at stops (answer_record t)).outcome → ⊥
goes_low stops t e h = absurd (omega (arith, answer_outcome t, ap (λ (r : Record). r.outcome) (goes-on stops (answer_record t) e)))

-- a table that is not accepted, and an equation with a line number, are found
refused : (table : List ℕ) → first_fault table ≢ Accepted → is_accepted (first_fault table) ≡ false
refused table n = go (is_accepted (first_fault table)) refl
  where
    go : (b : Bool) → is_accepted (first_fault table) ≡ b → b ≡ false
    go true e = absurd (n (fault_none (first_fault table) e))
    go false e = refl

numbered : (t : List Row) (n r : ℕ) → 0 < n → IsLine t r n → breaks43 t ≡ true
numbered t n r l it = go (breaks43 t) refl
  where
    go : (b : Bool) → breaks43 t ≡ b → b ≡ true
    go true e = refl
    go false e = absurd (omega (arith, no_lines t e n r it))

module _ (table : List ℕ) (lent : Lent) where
  abbrev work_room : ℕ
  work_room = length lent.work

  pub refuses : (answerRoom : ℕ) → Refuses table lent answerRoom
  unfolding open_record open_stops step_told step_record step_stops answer_told job_answer_record job_answer_stops stop_at
  refuses answerRoom =
      record {
        open_10 = λ l. rw (lt-ltb work_room 16384 l);
        step_10 = λ l. rw (lt-ltb work_room 16384 l);
        answer_10 = λ l. rw (lt-ltb work_room 16384 l);
        no_answer_room = λ l. rw (lt-ltb answerRoom 24576 l, or-true (ltb work_room 16384));
        opening = λ l.
            record {
              of_table = λ n. rw (le-ltb work_room 16384 l, refused table n);
              line_number = λ ok n r m it. rw (le-ltb work_room 16384 l, ok, numbered (rows_of table) n r m it);
            };
        step = λ l.
            record {
              of_table = λ n. rw (le-ltb work_room 16384 l, refused table n);
              line_number = λ ok n r m it. rw (le-ltb work_room 16384 l, ok, numbered (rows_of table) n r m it);
            };
        answer = λ l k.
            record {
              of_table = λ n. rw (le-ltb work_room 16384 l, le-ltb answerRoom 24576 k, refused table n);
              line_number = λ ok n r m it. rw (le-ltb work_room 16384 l, le-ltb answerRoom 24576 k, ok, numbered (rows_of table) n r m it);
            };
      }

  pub untouched : (old : List ℕ) → Untouched table lent old
  unfolding open_record step_record after_open after_step step_told answer_told answer_left open_job open_work step_job step_work job_answer_after
  untouched old =
      record {
        opening = λ h. opening (stopped (open_stops table work_room)) refl h;
        step = λ h. step (stopped (step_stops table lent.job.next lent.job.ties lent.work)) refl h;
        answer = λ h. rw (ne_eqb (job_answer_record table lent.job.next lent.job.ties lent.work (length old)).outcome 2 (omega arith));
      }
    where
      opening : (b : Bool) → stopped (open_stops table work_room) ≡ b → 2 < (open_record table work_room).outcome → after_open table lent ≡ lent
      opening true e h = rw e
      opening false e h = absurd (goes_low (open_stops table work_room) _ e h)

      step : (b : Bool) → stopped (step_stops table lent.job.next lent.job.ties lent.work) ≡ b → 2 < (step_record table lent.job.next lent.job.ties lent.work).outcome
          → after_step table lent ≡ lent
      step true e h = rw e
      step false e h = absurd (goes_low (step_stops table lent.job.next lent.job.ties lent.work) _ e h)
