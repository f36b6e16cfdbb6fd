-- The calls of a job one after the other: (b) which jobs and work areas are refused 44, (c) what all steps come to, (d) what the answer so far is. Assumes nothing.
use mathlib.Core.Path.{◌≡◌, refl, sym, ◌∙◌, ap, ap₂}
use mathlib.Core.Logic.{◌⊎◌, inl, inr, ◌≢◌, ⊎_elim}
use mathlib.Core.Bool.{Bool, true, false, not, cond, or-false}
use mathlib.Core.List.{List}
use Prim.Native.Nat.{ℕ, zero, suc, ◌-◌, ◌<◌, ◌≤◌}
use native.Mathlib.Omega.{arith}
use lib.ListN.{length, take, replicate, length-append, length-replicate}
use lib.Seq.{take_at}
use borrow.Author.Tests.{eqb-true, eq-eqb, ne_eqb, le-ltb}
use Rattle.laws.proofs.Numbers.{lt_or_le}
use Rattle.terms.specs.declared.Record.{Record}
use Rattle.terms.specs.declared.Row.{Row}
use Rattle.terms.specs.Assignments.{every}
use Rattle.terms.specs.Calls.{refusal, stop_at, stopped}
use Rattle.terms.specs.Faults.{Accepted, first_fault}
use Rattle.terms.specs.Table.{rows_of, row_numbers, bits_of, count_kind, all_rows, satisfies}
use Rattle.terms.specs.Counting.{NoLines}
use Rattle.terms.proofs.AcceptedTable.{accepted_table, table_bits}
use Rattle.terms.proofs.Assignments.{every_of}
use Rattle.terms.proofs.RowNumbers.{rows_written}
use Rattle.answers.specs.Solve.{valid, unsatisfiable, unsat_row, always_record, answer_record, solve_record, answer_after}
use Rattle.answers.proofs.Demands.{demand_2, demand_3}
use Rattle.jobs.specs.declared.Job.{Job}
use Rattle.jobs.specs.Prefix.{up_to, holders}
use Rattle.jobs.specs.State.{State, state_at, opened, stepped, state_after, area_of, reachable, never_row}
use Rattle.jobs.specs.Call.{breaks43, breaks44, breaks45, job_of, state_of, open_stops, open_record, open_job, open_work, step_stops, step_record, step_job, step_work, job_answer_stops, job_answer_record, job_answer_after}
use Rattle.jobs.specs.Claims.{equation_row}
use Rattle.jobs.specs.Course.{Lent, after_open, after_step, step_told, answer_told, answer_left, after_steps, so_far, ReachedExactly, AllSteps, AnswerSoFar, OpensAlways}
use Rattle.jobs.specs.Refusals.{NoneLeft}
use Rattle.jobs.proofs.Prefix.{up_past, up_next, up_accepted, up_satisfies}
use Rattle.jobs.proofs.PrefixPairs.{up_bits}
use Rattle.jobs.proofs.Meeting.{left_some, some_before, lost_at, never_at, lost_record}
use Rattle.jobs.proofs.EquationRows.{row_equation, row_within, row_last, row_past}
use Rattle.jobs.proofs.LineNumbers.{lines_none}
use Rattle.jobs.proofs.Held.{holders-length}
use Rattle.jobs.proofs.States.{step_never, step_end, step_on, step_lost, state_left, state_never}
use Rattle.jobs.proofs.Reaching.{reach_to, reach_of}
use Rattle.jobs.proofs.Refusals.{answer_outcome}

-- ---- with no equation taken every pattern is left
pub open_always : (t : List Row) → NoLines t → answer_record (up_to 0 t) ≡ always_record (bits_of t)
unfolding answer_record valid all_rows
open_always t none =
    let all : every (bits_of (up_to 0 t)) (satisfies (up_to 0 t)) ≡ true = every_of (bits_of (up_to 0 t)) (satisfies (up_to 0 t)) (λ p a. up_satisfies 0 t none p) in
    rw all (ap always_record (up_bits 0 t))

-- after a never a step is not refused 45
pub never_steps : (t : List Row) → length t ≤ 512 → breaks45 t never_row ≡ false
unfolding breaks45
never_steps t few = ne_eqb 1000 (length t) (omega arith)

-- ---- the work area
pub area_length : (room : ℕ) (held : List ℕ) → length held ≤ room → length (area_of room held) ≡ room
unfolding area_of
area_length room held l = omega (arith, length-append held (replicate (room - length held) 0), length-replicate {A = ℕ} (room - length held) 0)

pub area_holders : (room n : ℕ) (held : List ℕ) → length held ≡ n → take n (area_of room held) ≡ held
unfolding area_of
area_holders room n held e = take_at held (replicate (room - length held) 0) n e

module _ (table : List ℕ) (accepted : first_fault table ≡ Accepted) (none : NoLines (rows_of table)) where
  abbrev t : List Row
  t = rows_of table

  few : length t ≤ 512
  few = (accepted_table table accepted).few

  plain : breaks43 t ≡ false
  plain = lines_none t none

  -- ---- the states
  state_holders : (k : ℕ) → length (state_after t k).holders ≡ bits_of t
  unfolding state_at
  state_holders k = go (unsatisfiable (up_to (equation_row t k) t)) refl
    where
      go : (b : Bool) → unsatisfiable (up_to (equation_row t k) t) ≡ b → length (state_after t k).holders ≡ bits_of t
      go true e = rw (state_never table accepted none k e) (holders-length (up_to (unsat_row t) t) ∙ up_bits (unsat_row t) t)
      go false e = rw (state_left table accepted none k e) (holders-length (up_to (equation_row t k) t) ∙ up_bits (equation_row t k) t)

  module _ (first : Lent) (room : 16384 ≤ length first.work) where
    abbrev area : ℕ → List ℕ
    area k = area_of (length first.work) (state_after (rows_of table) k).holders

    area_room : (k : ℕ) → length (area k) ≡ length first.work
    area_room k = area_length (length first.work) (state_after t k).holders (omega (arith, state_holders k, table_bits table accepted))

    reached : (k : ℕ) → reachable t (state_after t k).next (state_after t k).ties (area k) ≡ true
    reached k =
        reach_of table accepted none k (state_after t k).next (state_after t k).ties (area k)
        (record { next_is = refl; ties_are = refl; area_is = ap (λ (n : ℕ). area_of n (state_after t k).holders) (area_room k) })

    abbrev pub lent_at : ℕ → Lent
    lent_at k = record { job = job_of (state_after (rows_of table) k); work = area_of (length first.work) (state_after (rows_of table) k).holders }

    state_told : (k : ℕ) → state_of t (state_after t k).next (state_after t k).ties (area k) ≡ state_after t k
    state_told k =
        ap (λ (h : List ℕ). record { next = (state_after t k).next; ties = (state_after t k).ties; holders = h })
        (area_holders (length first.work) (bits_of t) (state_after t k).holders (state_holders k))

    open_goes : stopped (open_stops table (length first.work)) ≡ false
    unfolding open_stops stopped
    open_goes = rw (le-ltb (length first.work) 16384 room, accepted, plain)

    step-stops : (k : ℕ) → stopped (step_stops table (state_after t k).next (state_after t k).ties (area k)) ≡ breaks45 t (state_after t k).next
    unfolding step_stops stopped breaks44
    step-stops k = rw (area_room k, le-ltb (length first.work) 16384 room, accepted, plain, reached k) (or-false (breaks45 t (state_after t k).next))

    one_step : (k : ℕ) → after_step table (lent_at k) ≡ lent_at (suc k)
    unfolding after_step step_job step_work state_after
    one_step k = go (breaks45 t (state_after t k).next) refl
      where
        go : (b : Bool) → breaks45 t (state_after t k).next ≡ b → after_step table (lent_at k) ≡ lent_at (suc k)
        go true e =
            let end : stepped t (state_after t k) ≡ state_after t k = step_end t (state_after t k) (omega (arith, eqb-true (state_after t k).next (length t) (unfold breaks45 in e))) in
            rw (step-stops k, e, end)
        go false e = rw (step-stops k, e, state_told k, area_room k)

    -- what opening and k steps leave is the state after k steps
    pub after_is : (k : ℕ) → after_steps table first k ≡ lent_at k
    unfolding after_steps after_open open_job open_work state_after
    after_is zero = rw open_goes
    after_is (suc k) = ap (after_step table) (after_is k) ∙ one_step k

    -- ---- the records of the calls at a state
    pub step-told : (k : ℕ) → step_told table (lent_at k)
        ≡ cond (breaks45 (rows_of table) (state_after (rows_of table) k).next) (refusal 45 0) (answer_record (up_to (suc (state_after (rows_of table) k).next) (rows_of table)))
    unfolding step_told step_record step_stops stop_at breaks44
    step-told k = rw (area_room k, le-ltb (length first.work) 16384 room, accepted, plain, reached k)

    pub answer-told : (k answerRoom : ℕ) → 24576 ≤ answerRoom → answer_told table (lent_at k) answerRoom ≡ answer_record (up_to (state_after (rows_of table) k).next (rows_of table))
    unfolding answer_told job_answer_record job_answer_stops stop_at breaks44
    answer-told k answerRoom l = rw (area_room k, le-ltb (length first.work) 16384 room, le-ltb answerRoom 24576 l, accepted, plain, reached k)

    -- 45 exactly where no equation is left
    pub none_left : (k : ℕ) → NoneLeft table first k
    unfolding breaks45
    none_left k =
        rw (after_is k)
        (record {
          to = λ h. to (breaks45 t (state_after t k).next) refl (sym (step-told k) ∙ h);
          of = λ e. step-told k ∙ rw (eq-eqb (state_after t k).next (length t) e);
        })
      where
        to : (b : Bool) → breaks45 t (state_after t k).next ≡ b
            → cond (breaks45 t (state_after t k).next) (refusal 45 0) (answer_record (up_to (suc (state_after t k).next) t)) ≡ refusal 45 0 → (state_after t k).next ≡ length t
        to true e q = eqb-true (state_after t k).next (length t) e
        to false e q = let r = rw e at q in absurd (omega (arith, answer_outcome (up_to (suc (state_after t k).next) t), ap (λ (x : Record). x.outcome) r))

    module _ (lent : Lent) (same : length lent.work ≡ length first.work) where
      abbrev Never : Type 0
      Never = (k : ℕ) → after_steps table first k ≡ lent → ⊥

      -- what no number of steps leaves is not reachable
      unreached : Never → reachable t lent.job.next lent.job.ties lent.work ≡ false
      unreached never = go (reachable t lent.job.next lent.job.ties lent.work) refl
        where
          go : (b : Bool) → reachable t lent.job.next lent.job.ties lent.work ≡ b → b ≡ false
          go false e = refl
          go true e =
              let it = reach_to table accepted none lent.job.next lent.job.ties lent.work e in
              let k = it.0 in
              let kept = it.1 in
              let w : area_of (length first.work) (state_after t k).holders ≡ lent.work = ap (λ (n : ℕ). area_of n (state_after t k).holders) (sym same) ∙ kept.area_is in
              let j : job_of (state_after t k) ≡ lent.job = ap₂ (λ (a b : ℕ). record { next = a; ties = b }) kept.next_is kept.ties_are in
              absurd (never k (after_is k ∙ ap₂ (λ (a : Job) (b : List ℕ). record { job = a; work = b }) j w))

      not_44 : (k : ℕ) → after_steps table first k ≡ lent → step_told table lent ≡ refusal 44 0 → ⊥
      not_44 k e h =
          let told : cond (breaks45 t (state_after t k).next) (refusal 45 0) (answer_record (up_to (suc (state_after t k).next) t)) ≡ refusal 44 0 =
          sym (step-told k) ∙ ap (step_told table) (sym (after_is k) ∙ e) ∙ h in
          go (breaks45 t (state_after t k).next) told
        where
          go : (b : Bool) → cond b (refusal 45 0) (answer_record (up_to (suc (state_after t k).next) t)) ≡ refusal 44 0 → ⊥
          go true q = let z : ◌≡◌ {A = ℕ} 45 44 = ap (λ (x : Record). x.outcome) q in absurd (omega arith)
          go false q = absurd (omega (arith, answer_outcome (up_to (suc (state_after t k).next) t), ap (λ (x : Record). x.outcome) q))

      answer_not_44 : (k answerRoom : ℕ) → 24576 ≤ answerRoom → after_steps table first k ≡ lent → answer_told table lent answerRoom ≡ refusal 44 0 → ⊥
      answer_not_44 k answerRoom l e h =
          let told : answer_record (up_to (state_after t k).next t) ≡ refusal 44 0 =
          sym (answer-told k answerRoom l) ∙ ap (λ (x : Lent). answer_told table x answerRoom) (sym (after_is k) ∙ e) ∙ h in
          absurd (omega (arith, answer_outcome (up_to (state_after t k).next t), ap (λ (x : Record). x.outcome) told))

      -- (b)
      pub reached_exactly : ReachedExactly table first lent
      unfolding step_told answer_told step_record step_stops job_answer_record job_answer_stops stop_at breaks44
      reached_exactly =
          record {
            step_44 =
                record { to = λ h k e. not_44 k e h; of = λ never. rw (same, le-ltb (length first.work) 16384 room, accepted, plain, unreached never) };
            answer_44 = λ answerRoom l.
                record {
                  to = λ h k e. answer_not_44 k answerRoom l e h;
                  of = λ never. rw (same, le-ltb (length first.work) 16384 room, le-ltb answerRoom 24576 l, accepted, plain, unreached never);
                };
          }

    -- ---- the tables of the answers so far
    pub never_or-row : (k : ℕ) → (unsatisfiable (up_to (equation_row t k) t) ≡ true) ⊎ (unsatisfiable (up_to (equation_row t k) t) ≡ false)
    never_or-row k = go (unsatisfiable (up_to (equation_row t k) t)) refl
      where
        go : (b : Bool) → unsatisfiable (up_to (equation_row t k) t) ≡ b → (unsatisfiable (up_to (equation_row t k) t) ≡ true) ⊎ (unsatisfiable (up_to (equation_row t k) t) ≡ false)
        go true e = inl e
        go false e = inr e

    pub next_never : (k : ℕ) → unsatisfiable (up_to (equation_row t k) t) ≡ true → (state_after t k).next ≡ never_row
    next_never k e = ap (λ (x : State). x.next) (state_never table accepted none k e)

    pub next-row : (k : ℕ) → unsatisfiable (up_to (equation_row t k) t) ≡ false → (state_after t k).next ≡ equation_row t k
    unfolding state_at
    next-row k e = ap (λ (x : State). x.next) (state_left table accepted none k e)

    -- the record with the next equation taken too is that of the next state
    ahead : (k : ℕ) → (state_after t k).next ≢ length t → answer_record (up_to (suc (state_after t k).next) t) ≡ answer_record (up_to (state_after t (suc k)).next t)
    unfolding state_after state_at
    ahead k n = ⊎_elim never row (never_or-row k)
      where
        never : unsatisfiable (up_to (equation_row t k) t) ≡ true → answer_record (up_to (suc (state_after t k).next) t) ≡ answer_record (up_to (state_after t (suc k)).next t)
        never e =
            let same : stepped t (state_after t k) ≡ state_after t k = step_never t (state_after t k) (next_never k e) in
            let at : (state_after t k).next ≡ never_row = next_never k e in
            rw (same, up_past (suc (state_after t k).next) t (omega (arith, few)), up_past (state_after t k).next t (omega (arith, few)))

        row : unsatisfiable (up_to (equation_row t k) t) ≡ false → answer_record (up_to (suc (state_after t k).next) t) ≡ answer_record (up_to (state_after t (suc k)).next t)
        row e = go (unsatisfiable (up_to (suc (equation_row t k)) t)) refl
          where
            at : (state_after t k).next ≡ equation_row t k
            at = next-row k e

            inside : equation_row t k < length t
            inside = omega (arith, row_within t k, n, at)

            go : (b : Bool) → unsatisfiable (up_to (suc (equation_row t k)) t) ≡ b → answer_record (up_to (suc (state_after t k).next) t) ≡ answer_record (up_to (stepped t (state_after t k)).next t)
            go true h =
                rw (state_left table accepted none k e, step_lost t (state_at t (equation_row t k)) few inside h, up_past never_row t (omega (arith, few)))
                (lost_record t none (equation_row t k) (lost_at t none (equation_row t k) inside (row_equation t k inside) e h))
            go false h =
                rw (state_left table accepted none k e, step_on t (state_at t (equation_row t k)) few inside h)
                (ap answer_record (sym (up_next t (suc (equation_row t k)) (omega (arith, inside)))))

    -- behind the last equation, and after a never, it is the whole table
    whole_end : (k : ℕ) → count_kind 4 t ≤ k → up_to (state_after t k).next t ≡ t
    whole_end k l =
        up_past (state_after t k).next t
        (⊎_elim (λ e. omega (arith, next_never k e, few)) (λ e. omega (arith, next-row k e, row_past t k l)) (never_or-row k))

    not_end : (k : ℕ) → suc k ≤ count_kind 4 t → (state_after t k).next ≢ length t
    not_end k l h =
        ⊎_elim (λ e. absurd (omega (arith, next_never k e, few, h))) (λ e. absurd (omega (arith, row_last t k (sym (next-row k e) ∙ h)))) (never_or-row k)

    pub step_goes : (k : ℕ) → (state_after t k).next ≢ length t → step_told table (lent_at k) ≡ answer_record (up_to (suc (state_after t k).next) t)
    unfolding breaks45
    step_goes k n = step-told k ∙ rw (ne_eqb (state_after t k).next (length t) n)

    open_told : open_record table (length first.work) ≡ answer_record (up_to 0 t)
    unfolding open_record open_stops stop_at
    open_told = rw (le-ltb (length first.work) 16384 room, accepted, plain)

    pub opens_always : OpensAlways table (length first.work)
    opens_always = open_told ∙ open_always t none

    first_next : up_to (state_after t 0).next t ≡ up_to 0 t
    unfolding state_after opened state_at
    first_next = up_next t 0 (omega arith)

    -- ---- a solve of the same
    module _ (answerRoom : ℕ) (enough : 24576 ≤ answerRoom) where
      abbrev work_room : ℕ
      work_room = length first.work

      solve_is : (numbers : List ℕ) → first_fault numbers ≡ Accepted → solve_record numbers answerRoom work_room ≡ answer_record (rows_of numbers)
      unfolding solve_record stop_at
      solve_is numbers ok = rw (le-ltb answerRoom 24576 enough, le-ltb (length first.work) 16384 room, ok)

      solve_up : (r : ℕ) → solve_record (row_numbers (up_to r t)) answerRoom work_room ≡ answer_record (up_to r t)
      solve_up r = solve_is (row_numbers (up_to r t)) (up_accepted r table accepted) ∙ ap answer_record (rows_written (up_to r t))

      -- an answer's table, from its record
      table_told : (k : ℕ) (old : List ℕ) → length old ≡ answerRoom → (numbers : List ℕ) → first_fault numbers ≡ Accepted → rows_of numbers ≡ up_to (state_after t k).next t
          → answer_left table (lent_at k) old ≡ answer_after numbers old work_room
      unfolding answer_left job_answer_after answer_after answer_told
      table_told k old n numbers ok same = rw (n, answer-told k answerRoom enough, solve_is numbers ok, same)

      -- (c)
      pub all_steps : AllSteps table first answerRoom
      all_steps =
          record {
            no_equation = λ e.
                open_told
                ∙ ap answer_record (sym first_next ∙ whole_end 0 (omega (arith, e)))
                ∙ sym (solve_is table accepted);
            last_step = λ k e.
                ap (step_told table) (after_is k)
                ∙ step_goes k (not_end k (omega (arith, e)))
                ∙ ahead k (not_end k (omega (arith, e)))
                ∙ ap answer_record (whole_end (suc k) (omega (arith, e)))
                ∙ sym (solve_is table accepted);
            answer-record =
                ap (λ (x : Lent). answer_told table x answerRoom) (after_is (count_kind 4 t))
                ∙ answer-told (count_kind 4 t) answerRoom enough
                ∙ ap answer_record (whole_end (count_kind 4 t) (omega arith))
                ∙ sym (solve_is table accepted);
            answer-table = λ old n.
                ap (λ (x : Lent). answer_left table x old) (after_is (count_kind 4 t))
                ∙ table_told (count_kind 4 t) old n table accepted (sym (whole_end (count_kind 4 t) (omega arith)));
            never_again = λ u k l. ap (step_told table) (after_is k) ∙ again u k l ∙ sym (solve_is table accepted);
          }
        where
          again : unsatisfiable t ≡ true → (k : ℕ) → unsat_row t ≤ equation_row t k → step_told table (lent_at k) ≡ answer_record t
          again u k l = ⊎_elim never row (never_or-row k)
            where
              never : unsatisfiable (up_to (equation_row t k) t) ≡ true → step_told table (lent_at k) ≡ answer_record t
              never e =
                  let at : (state_after t k).next ≡ never_row = next_never k e in
                  step_goes k (λ h. absurd (omega (arith, few))) ∙ ap answer_record (up_past (suc (state_after t k).next) t (omega (arith, few)))

              row : unsatisfiable (up_to (equation_row t k) t) ≡ false → step_told table (lent_at k) ≡ answer_record t
              row e =
                  let lost = never_at t none u in
                  let at : (state_after t k).next ≡ equation_row t k = next-row k e in
                  let here : equation_row t k ≡ unsat_row t =
                  ⊎_elim (λ m. absurd (lost.none_with (some_before t none (suc (unsat_row t)) (equation_row t k) (omega arith) (left_some t none (equation_row t k) e))))
                  (λ m. omega arith) (lt_or_le (unsat_row t) (equation_row t k)) in
                  let there : (state_after t k).next ≡ unsat_row t = at ∙ here in
                  step_goes k (λ h. absurd (omega (arith, lost.counts.in_table, there)))
                  ∙ ap (λ (r : ℕ). answer_record (up_to (suc r) t)) there
                  ∙ lost_record t none (unsat_row t) lost

      -- (d)
      pub answer_so_far : (k : ℕ) → AnswerSoFar table first k answerRoom
      unfolding so_far
      answer_so_far k =
          let e = after_is k in
          let read = rows_written (up_to (state_after t k).next t) in
          let ok = up_accepted (state_after t k).next table accepted in
          record {
            whole = rw e (λ h. up_past (state_after t k).next t (omega (arith, few)));
            accepted = rw e ok;
            record_is = rw e (answer-told k answerRoom enough ∙ sym (solve_up (state_after t k).next));
            table_is = λ old n. rw e (table_told k old n (row_numbers (up_to (state_after t k).next t)) ok read);
            opening_is = rw (after_is 0) (open_told ∙ ap answer_record (sym first_next) ∙ sym (solve_up (state_after t 0).next));
            step_is = rw (e, after_is (suc k)) (λ n. step_goes k n ∙ ahead k n ∙ sym (solve_up (state_after t (suc k)).next));
            demand_2 = rw e (rw read at (demand_2 (row_numbers (up_to (state_after t k).next t)) ok));
            demand_3 = rw e (rw read at (demand_3 (row_numbers (up_to (state_after t k).next t)) ok));
          }
