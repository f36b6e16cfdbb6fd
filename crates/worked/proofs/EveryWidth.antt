-- Document 01's cases hold at every width; its own cases 1, 2 and 5 are instances. Assumes nothing.
use mathlib.Core.List.{[], ◌++◌}
use native.Mathlib.Omega.{arith}
use Rattle.worked.specs.Cases.{Solved, Holds, row, piece, figures}
use Rattle.worked.specs.EveryWidth.{AtEveryWidth}
use Rattle.worked.proofs.AnyWidth.{itself_any, fills_any, variable_any, variable_refused_any, filled_any, chained_any, cut_any, cut_refused_any, joined-any}
use Rattle.worked.proofs.WidthBounds.{fill-any, fill_refused_any, join_any, join_refused_any}
use Rattle.worked.proofs.NoneLeft.{none_left_any}
use Rattle.worked.proofs.OverlapCases.{even_any, odd_any}

pub every_width : AtEveryWidth
every_width =
    record {
      case_1 = even_any;
      case_2 = odd_any;
      case_3 = itself_any;
      case_4 = fills_any;
      case_5 = none_left_any;
      variable = variable_any;
      variable_refused = variable_refused_any;
      fill = fill-any;
      fill_refused = fill_refused_any;
      join = λ v w a b h. join_any v w a (omega arith) b (omega arith) h;
      join_refused = λ v w a b c d h. join_refused_any v w a b c d h;
      filled = filled_any;
      chained = λ w l h. chained_any w (omega arith) h l;
      cut = λ w b c h l m. cut_any w (omega arith) h b c l m;
      cut_refused = λ w b c l h k. cut_refused_any w l h b c k;
      case_9 = λ w k h l m. joined-any w (omega arith) h k l m;
    }

-- Case 1 as document 01 has it, with m = 3.
pub case_1_instance : Holds (Solved
    (row 0 8 0 0 ++ row 3 0 6 3 ++ row 3 0 4 1 ++ row 4 1 2 0)
    (figures 2 5 3 4 4 0)
    (piece 0 2 1 0 0 7 ++ piece 0 2 2 1 0 6 ++ piece 0 2 2 1 0 6 ++ piece 0 2 2 1 0 6 ++ piece 0 2 1 2 0 0)
    16)
case_1_instance = every_width.case_1 3 (omega arith) (omega arith)

-- Case 2, with m = 4.
pub case_2_instance : Holds (Solved
    (row 0 9 0 0 ++ row 3 0 7 3 ++ row 3 0 5 1 ++ row 4 1 2 0)
    (figures 2 9 4 4 5 0)
    (piece 0 2 1 0 0 8 ++ piece 0 2 1 1 0 7 ++ piece 0 2 1 2 0 6 ++ piece 0 2 1 1 0 7 ++ piece 0 2 1 2 0 6 ++ piece 0 2 1 1 0 7 ++ piece 0 2 1 2 0 6
    ++ piece 0 2 1 1 0 7 ++ piece 0 2 1 3 0 0)
    16)
case_2_instance = every_width.case_2 4 (omega arith) (omega arith)

-- Case 5, with words of one bit.
pub case_5_instance : Holds (Solved
    (row 0 1 0 0 ++ row 0 1 0 0 ++ row 1 0 1 0 ++ row 1 1 1 0 ++ row 4 0 1 0 ++ row 4 1 2 0 ++ row 4 0 3 0)
    (figures 1 0 0 0 2 6)
    []
    0)
case_5_instance = every_width.case_5 1 (omega arith) (omega arith)
