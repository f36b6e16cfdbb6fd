-- The cases of revised equations hold at every width and with every line number; one worked by hand as an instance.
-- Assumes nothing.
use mathlib.Core.List.{[], ◌++◌}
use native.Mathlib.Omega.{arith}
use Rattle.worked.specs.Cases.{Solved, Holds, row, figures}
use Rattle.worked.specs.RevisedEveryWidth.{RevisedAtEveryWidth}
use Rattle.worked.proofs.RevisedAnyWidth.{to_ones_any, to_zeros_any, both_count-any, where_it_stands_any, says_nothing_any, cut_no_line-any, checked_too_any, value_unlined_any}

pub revised-every_width : RevisedAtEveryWidth
revised-every_width =
    record {
      to_ones = λ w n a b h. to_ones_any w a b n h;
      to_zeros = λ w n a b h. to_zeros_any w a b n h;
      both_count = λ w n m a b h. both_count-any w a b n m h;
      where_it_stands = λ w n m a b h d. where_it_stands_any w a b n h m d;
      says_nothing = λ w n m a b h d. says_nothing_any w a b n h m d;
      cut_no_line = λ w b c most l h. cut_no_line-any w (omega arith) most b c l h;
      checked_too = λ w n r a b h. checked_too_any w a b n r h;
      value_unlined = value_unlined_any;
    }

-- The third case worked by hand: w is 2, line 7, and the other has no line.
pub by_hand_revised : Holds (Solved
    (row 0 2 0 0 ++ row 1 0 2 0 ++ row 1 1 2 0 ++ row 4 0 1 7 ++ row 4 0 2 0 ++ row 4 0 1 7)
    (figures 1 0 0 0 2 5)
    []
    0)
by_hand_revised = revised-every_width.where_it_stands 2 7 0 (omega arith) (omega arith) (omega arith) (λ e. omega arith)
