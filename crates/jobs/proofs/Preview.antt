-- A preview comes true (document 02, (ix)): (b) it is the record of the answer one step later, (c) it tells never exactly if the next equation leaves no pattern, and
-- else the ties with it taken. Assumes nothing.
use mathlib.Core.Path.{◌≡◌, refl, sym, ◌∙◌, ap, subst}
use mathlib.Core.Bool.{Bool, true, false, cond}
use mathlib.Core.List.{List}
use mathlib.Core.Logic.{⊎_elim, ◌≢◌}
use Prim.Native.Nat.{ℕ, zero, suc, ◌<◌, ◌≤◌}
use native.Mathlib.Omega.{arith}
use lib.ListN.{length}
use Rattle.laws.proofs.Numbers.{lt_or_le, dec_eq}
use Rattle.terms.specs.declared.Record.{Record}
use Rattle.terms.specs.declared.Row.{Row}
use Rattle.terms.specs.Acceptance.{Exactly}
use Rattle.terms.specs.Assignments.{Assignment}
use Rattle.terms.specs.Counting.{NoLines, SidesEqual}
use Rattle.terms.specs.Faults.{Accepted, first_fault}
use Rattle.terms.specs.Table.{rows_of, row_numbers, row_at}
use Rattle.terms.proofs.AcceptedTable.{accepted_table}
use Rattle.terms.proofs.RowNumbers.{rows_written}
use Rattle.answers.specs.Never.{SomeLeft}
use Rattle.answers.specs.Solve.{valid, unsatisfiable, unsat_row, ties_to, solved_rows, always_record, never_record, solved_record, answer_record}
use Rattle.answers.proofs.Never.{never-row}
use Rattle.answers.proofs.Tables.{valid_to}
use Rattle.jobs.specs.Prefix.{up_to}
use Rattle.jobs.specs.State.{State, state_at, state_after, area_of, never_row}
use Rattle.jobs.specs.declared.Job.{Job}
use Rattle.jobs.specs.Call.{job_of}
use Rattle.jobs.specs.Claims.{equation_row}
use Rattle.jobs.specs.Course.{Lent, after_steps, step_told}
use Rattle.jobs.specs.Preview.{ComesTrue, NoneWith, Foretells}
use Rattle.jobs.proofs.Prefix.{up_count, up_accepted, up_past}
use Rattle.jobs.proofs.PrefixPairs.{up_ties-all}
use Rattle.jobs.proofs.Meeting.{plain_counts, left_some, never_none, none_never, whole_never, lost_at, never_at, lost_record}
use Rattle.jobs.proofs.EquationRows.{row_equation, row_within}
use Rattle.jobs.proofs.States.{state_left}
use Rattle.jobs.proofs.Course.{lent_at, after_is, step_goes, none_left, all_steps, answer_so_far, next-row, next_never, never_or-row}

module _ (table : List ℕ) (accepted : first_fault table ≡ Accepted) (none : NoLines (rows_of table)) where
  abbrev t : List Row
  t = rows_of table

  few : length t ≤ 512
  few = (accepted_table table accepted).few

  -- ---- a row up to which a pattern is left
  -- no pattern with the equation of row r too, in words and by the search
  with_none : (r : ℕ) → r < length t → (row_at t r).kind ≡ 4 → NoneWith t r → unsatisfiable (up_to (suc r) t) ≡ true
  with_none r l e h =
      none_never t none (suc r)
      (λ some. h some.pattern some.bits (λ i m c. some.meets i (omega arith) c) (some.meets r (omega arith) (plain_counts t none r l e)))

  none_with : (r : ℕ) → unsatisfiable (up_to (suc r) t) ≡ true → NoneWith t r
  none_with r u p a before equal = never_none t none (suc r) u (record { pattern = p; bits = a; meets = λ i m c. ⊎_elim (λ l. before i l c) (λ l. at i (omega arith)) (lt_or_le i r) })
    where
      at : (i : ℕ) → i ≡ r → SidesEqual t p i
      at i e = rw e equal

  -- where one is left, the outcome is not never, and the ties are those of the equations up to row r
  left_outcome : (r : ℕ) → unsatisfiable (up_to r t) ≡ false → (answer_record (up_to r t)).outcome ≢ 1
  unfolding answer_record
  left_outcome r u = go (valid (up_to r t)) refl
    where
      go : (b : Bool) → valid (up_to r t) ≡ b → (answer_record (up_to r t)).outcome ≢ 1
      go true e h = let z : ◌≡◌ {A = ℕ} 0 1 = rw e at h in absurd (omega arith)
      go false e h = let z : ◌≡◌ {A = ℕ} 2 1 = rw (e, u) at h in absurd (omega arith)

  all_here : (r : ℕ) → ties_to (up_to r t) (length (up_to r t)) ≡ ties_to t r
  all_here r = ap (ties_to (up_to r t)) (up_count r t) ∙ up_ties-all r t none

  left_ties : (r : ℕ) → unsatisfiable (up_to r t) ≡ false → (answer_record (up_to r t)).ties ≡ ties_to t r
  unfolding answer_record
  left_ties r u = go (valid (up_to r t)) refl
    where
      read : rows_of (row_numbers (up_to r t)) ≡ up_to r t
      read = rows_written (up_to r t)

      no_tie : valid (up_to r t) ≡ true → ties_to (up_to r t) (length (up_to r t)) ≡ 0
      no_tie e = rw read at (valid_to (row_numbers (up_to r t)) (up_accepted r table accepted) (rw read u) (rw read e))

      go : (b : Bool) → valid (up_to r t) ≡ b → (answer_record (up_to r t)).ties ≡ ties_to t r
      go true e = rw e (sym (no_tie e) ∙ all_here r)
      go false e = rw (e, u) (all_here r)

  -- ---- what is told at a row
  module _ (r : ℕ) (l : r < length t) (e : (row_at t r).kind ≡ 4) (u : unsatisfiable (up_to r t) ≡ false) where
    lost : unsatisfiable (up_to (suc r) t) ≡ true → answer_record (up_to (suc r) t) ≡ never_record (ties_to t r) r
    lost h = let it = lost_at t none r l e u h in lost_record t none r it ∙ (never-row t r).of it

    by_outcome : (b : Bool) → unsatisfiable (up_to (suc r) t) ≡ b → (answer_record (up_to (suc r) t)).outcome ≡ 1 → unsatisfiable (up_to (suc r) t) ≡ true
    by_outcome true h o = h
    by_outcome false h o = absurd (left_outcome (suc r) h o)

    is_lost : (answer_record (up_to (suc r) t)).outcome ≡ 1 → unsatisfiable (up_to (suc r) t) ≡ true
    is_lost = by_outcome (unsatisfiable (up_to (suc r) t)) refl

    by_ties : (b : Bool) → unsatisfiable (up_to (suc r) t) ≡ b → (answer_record (up_to (suc r) t)).outcome ≢ 1 → (answer_record (up_to (suc r) t)).ties ≡ ties_to t (suc r)
    by_ties true h o = absurd (o (ap (λ (x : Record). x.outcome) (lost h)))
    by_ties false h o = left_ties (suc r) h

    foretold : (work : List ℕ) → step_told table (record { job = record { next = r; ties = ties_to t r }; work = work }) ≡ answer_record (up_to (suc r) t)
        → Foretells table (record { job = record { next = r; ties = ties_to t r }; work = work })
    foretold work told =
        record {
          never_exactly = rw told (record { to = λ o. none_with r (is_lost o); of = λ h. ap (λ (x : Record). x.outcome) (lost (with_none r l e h)) });
          never-record = rw told (λ o. lost (is_lost o));
          ties_with = rw told (by_ties (unsatisfiable (up_to (suc r) t)) refl);
          ties_without = refl;
        }

  module _ (first : Lent) (room : 16384 ≤ length first.work) where
    -- after a never the record is the whole table's, which is a never
    after_never : (k : ℕ) → (state_after t k).next ≡ never_row → (step_told table (lent_at table accepted none first room k)).outcome ≡ 1
    after_never k at =
        ⊎_elim never (λ u. absurd (omega (arith, at, next-row table accepted none first room k u, row_within t k, few))) (never_or-row table accepted none first room k)
      where
        never : unsatisfiable (up_to (equation_row t k) t) ≡ true → (step_told table (lent_at table accepted none first room k)).outcome ≡ 1
        never u =
            ap (λ (x : Record). x.outcome)
            (step_goes table accepted none first room k (λ h. absurd (omega (arith, at, few)))
            ∙ ap answer_record (up_past (suc (state_after t k).next) t (omega (arith, at, few)))
            ∙ (never-row t (unsat_row t)).of (never_at t none (whole_never t none (equation_row t k) u)))

    -- (b)
    pub comes_true : (k answerRoom : ℕ) → 24576 ≤ answerRoom → ComesTrue table first k answerRoom
    comes_true k answerRoom enough =
        record {
          next_answer = λ n.
              (answer_so_far table accepted none first room answerRoom enough k).step_is n
              ∙ sym (answer_so_far table accepted none first room answerRoom enough (suc k)).record_is;
          never_again = λ e.
              let at : (state_after t k).next ≡ never_row = ap (λ (x : Lent). x.job.next) (sym (after_is table accepted none first room k)) ∙ e in
              ap (λ (x : Lent). (step_told table x).outcome) (after_is table accepted none first room k) ∙ after_never k at;
          none_left = (none_left table accepted none first room k).of;
        }

    -- (c)
    pub foretells : (k : ℕ) → (after_steps table first k).job.next < length (rows_of table) → Foretells table (after_steps table first k)
    unfolding state_at
    foretells k l =
        rw (after_is table accepted none first room k)
        (⊎_elim (λ u. absurd (omega (arith, inside, next_never table accepted none first room k u, few))) row (never_or-row table accepted none first room k))
      where
        inside : (state_after t k).next < length t
        inside = rw (ap (λ (x : Lent). x.job.next) (after_is table accepted none first room k)) at l

        row : unsatisfiable (up_to (equation_row t k) t) ≡ false → Foretells table (lent_at table accepted none first room k)
        row u =
            let at : (state_after t k).next ≡ equation_row t k = next-row table accepted none first room k u in
            let here : equation_row t k < length t = omega (arith, inside, at) in
            let work = area_of (length first.work) (state_after t k).holders in
            let job : job_of (state_after t k) ≡ record { next = equation_row t k; ties = ties_to t (equation_row t k) } = ap job_of (state_left table accepted none k u) in
            let told : step_told table (record { job = job_of (state_after t k); work = work }) ≡ answer_record (up_to (suc (equation_row t k)) t) =
            step_goes table accepted none first room k (λ h. absurd (omega (arith, inside, h))) ∙ ap (λ (r : ℕ). answer_record (up_to (suc r) t)) at in
            subst (λ (j : Job). Foretells table (record { job = j; work = work })) (sym job)
            (foretold (equation_row t k) here (row_equation t k here) u work (ap (λ (j : Job). step_told table (record { job = j; work = work })) (sym job) ∙ told))
