-- Tables worked in whole pieces: each number is computed anew. Assumes nothing.
use mathlib.Core.Path.{refl}
use mathlib.Core.Logic.{inl, inr}
use Prim.Native.Nat.{ℕ}
use native.Mathlib.Omega.{arith}
use Rattle.terms.specs.Table.{rows_of, row_at}
use Rattle.forms.specs.Form.{piece_width}
use Rattle.answers.specs.inner.Classes.{run_all}
use Rattle.classes.specs.inner.Links.{climb, roots_of}
use Rattle.slices.specs.Along.{along, run_pairs}
use Rattle.slices.specs.Borders.{ends_at, total}
use Rattle.slices.specs.Cut.{slice_widths, spelled_pairs, left_widths, right_widths, FirstCut}
use Rattle.run_pairs.specs.inner.Taken.{taken_all, at_end, at_own}
use Rattle.worked.specs.Cases.{Solved}
use Rattle.worked.proofs.WorkedOut.{out_holds, case_computed}
use Rattle.worked_pieces.specs.Work.{none_left, next_slice, step, shut_at, Right}
use Rattle.worked_pieces.specs.Tables.{case2, ten_bits, running_example, zeros_and_fill}
use Rattle.worked_pieces.proofs.Computing.{run_at, are_runs, are_seated, seated_are, is_state, state_is, same_ends, each_some, cut_is, cut_written, step_is, swept_is}

-- Whoever unfolds this unfolds all that is computed here.
unfoldable pub work_computed : ℕ
unfolding case_computed piece_width run_all climb roots_of along run_pairs ends_at total slice_widths spelled_pairs left_widths right_widths run_at are_runs are_seated is_state same_ends each_some
work_computed = 0

pub case_2 : Right case2
unfolding work_computed
case_2 =
    record {
      first_cut = cut;
      cut_written = cut_written (rows_of case2.table) case2.row case2.cut cut;
      from = state_is (shut_at (rows_of case2.table)) case2.start.links case2.start.last case2.start.first refl;
      alone = refl;
      stepped =
          step (step_is (shut_at (rows_of case2.table)) 3 5 5 _ _ _ refl refl (at_own refl) refl refl refl)
          (step (step_is (shut_at (rows_of case2.table)) 5 7 3 _ _ _ refl refl (at_end 3 (omega arith) (inl refl) refl) refl refl refl)
          (step (step_is (shut_at (rows_of case2.table)) 7 9 1 _ _ _ refl refl (taken_all refl) refl refl refl)
          (next_slice
          none_left)));
      runs = state_is (shut_at (rows_of case2.table)) case2.held.links case2.held.last case2.held.first refl;
      seated = seated_are (shut_at (rows_of case2.table)) 11 case2.held.links case2.held.last refl;
      swept = λ shut h last first h' last' first' row ties E S P.
          swept_is case2.table h last first h' last' first' shut row ties E S P case2.found.ties case2.held.links refl refl refl;
      solved = out_holds (Solved case2.table case2.found case2.answer case2.patterns);
    }
  where
    cut : FirstCut (rows_of case2.table) (row_at (rows_of case2.table) case2.row) case2.cut
    cut = cut_is (rows_of case2.table) (row_at (rows_of case2.table) case2.row) case2.cut 5 refl refl refl refl refl refl

pub ten-bits : Right ten_bits
unfolding work_computed
ten-bits =
    record {
      first_cut = cut;
      cut_written = cut_written (rows_of ten_bits.table) ten_bits.row ten_bits.cut cut;
      from = state_is (shut_at (rows_of ten_bits.table)) ten_bits.start.links ten_bits.start.last ten_bits.start.first refl;
      alone = refl;
      stepped =
          step (step_is (shut_at (rows_of ten_bits.table)) 3 5 6 _ _ _ refl refl (at_own refl) refl refl refl)
          (step (step_is (shut_at (rows_of ten_bits.table)) 5 7 4 _ _ _ refl refl (at_end 3 (omega arith) (inl refl) refl) refl refl refl)
          (step (step_is (shut_at (rows_of ten_bits.table)) 7 9 2 _ _ _ refl refl (taken_all refl) refl refl refl)
          (next_slice
          none_left)));
      runs = state_is (shut_at (rows_of ten_bits.table)) ten_bits.held.links ten_bits.held.last ten_bits.held.first refl;
      seated = seated_are (shut_at (rows_of ten_bits.table)) 12 ten_bits.held.links ten_bits.held.last refl;
      swept = λ shut h last first h' last' first' row ties E S P.
          swept_is ten_bits.table h last first h' last' first' shut row ties E S P ten_bits.found.ties ten_bits.held.links refl refl refl;
      solved = out_holds (Solved ten_bits.table ten_bits.found ten_bits.answer ten_bits.patterns);
    }
  where
    cut : FirstCut (rows_of ten_bits.table) (row_at (rows_of ten_bits.table) ten_bits.row) ten_bits.cut
    cut = cut_is (rows_of ten_bits.table) (row_at (rows_of ten_bits.table) ten_bits.row) ten_bits.cut 6 refl refl refl refl refl refl

pub running-example : Right running_example
unfolding work_computed
running-example =
    record {
      first_cut = cut;
      cut_written = cut_written (rows_of running_example.table) running_example.row running_example.cut cut;
      from = state_is (shut_at (rows_of running_example.table)) running_example.start.links running_example.start.last running_example.start.first refl;
      alone = refl;
      stepped =
          step (step_is (shut_at (rows_of running_example.table)) 2 2 3 _ _ _ refl refl (taken_all refl) refl refl refl)
          (next_slice
          (step (step_is (shut_at (rows_of running_example.table)) 8 9 1 _ _ _ refl refl (taken_all refl) refl refl refl)
          (next_slice
          (step (step_is (shut_at (rows_of running_example.table)) 9 10 1 _ _ _ refl refl (taken_all refl) refl refl refl)
          (next_slice
          (step (step_is (shut_at (rows_of running_example.table)) 0 11 3 _ _ _ refl refl (taken_all refl) refl refl refl)
          (next_slice
          (step (step_is (shut_at (rows_of running_example.table)) 0 2 1 _ _ _ refl refl (taken_all refl) refl refl refl)
          (next_slice
          none_left)))))))));
      runs = state_is (shut_at (rows_of running_example.table)) running_example.held.links running_example.held.last running_example.held.first refl;
      seated = seated_are (shut_at (rows_of running_example.table)) 14 running_example.held.links running_example.held.last refl;
      swept = λ shut h last first h' last' first' row ties E S P.
          swept_is running_example.table h last first h' last' first' shut row ties E S P running_example.found.ties running_example.held.links refl refl refl;
      solved = out_holds (Solved running_example.table running_example.found running_example.answer running_example.patterns);
    }
  where
    cut : FirstCut (rows_of running_example.table) (row_at (rows_of running_example.table) running_example.row) running_example.cut
    cut = cut_is (rows_of running_example.table) (row_at (rows_of running_example.table) running_example.row) running_example.cut 9 refl refl refl refl refl refl

pub zeros_and-fill : Right zeros_and_fill
unfolding work_computed
zeros_and-fill =
    record {
      first_cut = cut;
      cut_written = cut_written (rows_of zeros_and_fill.table) zeros_and_fill.row zeros_and_fill.cut cut;
      from = state_is (shut_at (rows_of zeros_and_fill.table)) zeros_and_fill.start.links zeros_and_fill.start.last zeros_and_fill.start.first refl;
      alone = refl;
      stepped =
          step (step_is (shut_at (rows_of zeros_and_fill.table)) 2 0 4 _ _ _ refl refl (taken_all refl) refl refl refl)
          (next_slice
          (step (step_is (shut_at (rows_of zeros_and_fill.table)) 6 10 4 _ _ _ refl refl (taken_all refl) refl refl refl)
          (next_slice
          none_left)));
      runs = state_is (shut_at (rows_of zeros_and_fill.table)) zeros_and_fill.held.links zeros_and_fill.held.last zeros_and_fill.held.first refl;
      seated = seated_are (shut_at (rows_of zeros_and_fill.table)) 14 zeros_and_fill.held.links zeros_and_fill.held.last refl;
      swept = λ shut h last first h' last' first' row ties E S P.
          swept_is zeros_and_fill.table h last first h' last' first' shut row ties E S P zeros_and_fill.found.ties zeros_and_fill.held.links refl refl refl;
      solved = out_holds (Solved zeros_and_fill.table zeros_and_fill.found zeros_and_fill.answer zeros_and_fill.patterns);
    }
  where
    cut : FirstCut (rows_of zeros_and_fill.table) (row_at (rows_of zeros_and_fill.table) zeros_and_fill.row) zeros_and_fill.cut
    cut = cut_is (rows_of zeros_and_fill.table) (row_at (rows_of zeros_and_fill.table) zeros_and_fill.row) zeros_and_fill.cut 8 refl refl refl refl refl refl
