-- (g) Document 01's case 5 as a job: its states and its records are computed, and what the calls leave follows from the theorems. Assumes nothing.
use mathlib.Core.Path.{◌≡◌, refl, ◌∙◌, ap}
use mathlib.Core.Bool.{false}
use mathlib.Core.List.{[], ◌∷◌}
use Prim.Native.Nat.{ℕ, zero, suc, ◌+◌, ◌≤◌}
use native.Mathlib.Omega.{arith}
use lib.ListN.{length}
use Rattle.laws.specs.Lists.{count_up, least, below, tally, member, distinct}
use Rattle.terms.specs.declared.Record.{Record}
use Rattle.terms.specs.Assignments.{every}
use Rattle.terms.specs.Faults.{Accepted, first_fault}
use Rattle.terms.specs.Counting.{NoLines}
use Rattle.terms.specs.Table.{rows_of, some_row, next_equation, same_word, evened, extract, sources_of, bit_of}
use Rattle.terms.proofs.Computed.{fault_computed, satisfies_computed}
use Rattle.answers.specs.Pairs.{paired, pairs_of, pairs_in, equal_under, satisfies_pairs, ties}
use Rattle.answers.specs.Answer.{variable_widths, begins, variable_at, contiguous, fixed_alike, goes_on, lowest, appears, place_row, placed, rows_to, answer_rows, fresh_numbers, fresh_pieces, fresh_width, fresh_start, free_bits}
use Rattle.answers.specs.Solve.{valid, unsatisfiable, satisfies_to, unsat_row, pairs_together, ties_to, solved_rows, answer_record}
use Rattle.jobs.specs.Prefix.{equation_among, up_to, holder, host_number, holders}
use Rattle.jobs.specs.State.{State, state_at, opened, stepped, state_after, area_of}
use Rattle.jobs.specs.Call.{has_line, breaks43, breaks45}
use Rattle.jobs.specs.Course.{Lent, step_told, after_steps}
use Rattle.jobs.specs.CaseFive.{case_five, leaves, CaseFive}
use Rattle.jobs.proofs.LineNumbers.{no_lines}
use Rattle.jobs.proofs.States.{step_never}
use Rattle.jobs.proofs.Course.{after_is, step-told, opens_always}

accepted : first_fault case_five ≡ Accepted
unfolding fault_computed
accepted = refl

plain : NoLines (rows_of case_five)
unfolding breaks43 has_line rows_of some_row
plain = no_lines (rows_of case_five) refl

-- ---- the states and the records, under names that unfold all that they are computed from
unfoldable state_computed : ℕ → State
unfolding satisfies_computed next_equation same_word evened extract sources_of bit_of every least count_up paired pairs_of pairs_in equal_under satisfies_pairs ties unsatisfiable pairs_together ties_to opened stepped state_after state_at up_to equation_among holder host_number holders
state_computed k = state_after (rows_of case_five) k

unfoldable record_computed : ℕ → Record
unfolding satisfies_computed same_word evened extract sources_of bit_of every least count_up paired pairs_of pairs_in equal_under satisfies_pairs ties valid unsatisfiable satisfies_to unsat_row pairs_together ties_to solved_rows variable_widths begins variable_at contiguous fixed_alike goes_on lowest appears place_row placed rows_to answer_rows fresh_numbers fresh_pieces fresh_width fresh_start free_bits below tally distinct member up_to equation_among answer_record
record_computed r = answer_record (up_to r (rows_of case_five))

state_0 : state_after (rows_of case_five) 0 ≡ record { next = 4; ties = 0; holders = 0 ∷ 1 ∷ [] }
unfolding state_computed
state_0 = refl

state_1 : state_after (rows_of case_five) 1 ≡ record { next = 5; ties = 1; holders = 0 ∷ 0 ∷ [] }
unfolding state_computed
state_1 = refl

state_2 : state_after (rows_of case_five) 2 ≡ record { next = 6; ties = 2; holders = 4096 ∷ 4096 ∷ [] }
unfolding state_computed
state_2 = refl

state_3 : state_after (rows_of case_five) 3 ≡ record { next = 1000; ties = 2; holders = 4096 ∷ 4096 ∷ [] }
unfolding state_computed
state_3 = refl

state-after : (k : ℕ) → state_after (rows_of case_five) (3 + k) ≡ record { next = 1000; ties = 2; holders = 4096 ∷ 4096 ∷ [] }
unfolding state_after
state-after zero = state_3
state-after (suc k) =
    let more : 3 + suc k ≡ suc (3 + k) = omega arith in
    ap (state_after (rows_of case_five)) more
    ∙ ap (stepped (rows_of case_five)) (state-after k)
    ∙ step_never (rows_of case_five) (record { next = 1000; ties = 2; holders = 4096 ∷ 4096 ∷ [] }) refl

module _ (lent : Lent) (room : 16384 ≤ length lent.work) where
  left_at : (k next ties first second : ℕ) → state_after (rows_of case_five) k ≡ record { next = next; ties = ties; holders = first ∷ second ∷ [] }
      → after_steps case_five lent k ≡ leaves (length lent.work) next ties first second
  unfolding area_of
  left_at k next ties first second e = after_is case_five accepted plain lent room k ∙ rw e

  told_at : (k next ties first second : ℕ) → state_after (rows_of case_five) k ≡ record { next = next; ties = ties; holders = first ∷ second ∷ [] }
      → breaks45 (rows_of case_five) next ≡ false → step_told case_five (after_steps case_five lent k) ≡ answer_record (up_to (suc next) (rows_of case_five))
  told_at k next ties first second e on = ap (step_told case_five) (after_is case_five accepted plain lent room k) ∙ step-told case_five accepted plain lent room k ∙ rw (e, on)

  pub case-five : CaseFive lent
  unfolding record_computed breaks45
  case-five =
      record {
        opening = opens_always case_five accepted plain lent room;
        opened = left_at 0 4 0 0 1 state_0;
        step_1 = told_at 0 4 0 0 1 state_0 refl;
        after_1 = left_at 1 5 1 0 0 state_1;
        step_2 = told_at 1 5 1 0 0 state_1 refl;
        after_2 = left_at 2 6 2 4096 4096 state_2;
        step_3 = told_at 2 6 2 4096 4096 state_2 refl;
        never = λ k. left_at (3 + k) 1000 2 4096 4096 (state-after k);
        further = λ k. told_at (3 + k) 1000 2 4096 4096 (state-after k) refl;
      }
