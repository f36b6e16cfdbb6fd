-- The cases of short sides against long sides hold at every width; one worked by hand as an instance. Assumes nothing.
use mathlib.Core.List.{◌++◌}
use native.Mathlib.Omega.{arith}
use Rattle.worked.specs.Cases.{Solved, Holds, row, piece, figures}
use Rattle.worked.specs.ShortSidesEveryWidth.{ShortSidesAtEveryWidth}
use Rattle.worked.proofs.ShortSidesAnyWidth.{long_any, short_any}
use Rattle.worked.proofs.ShortSidesWithin.{own_any, again_any, ones_any, join_any}
use Rattle.worked.proofs.ShortSidesNever.{long_ones_any, long_ones_later_any, zero_fills_any, one_fills_any}

pub short_sides_every_width : ShortSidesAtEveryWidth
short_sides_every_width =
    record {
      long-first = long_any;
      short-first = short_any;
      own-bits = own_any;
      own-bits-again = again_any;
      short-ones = ones_any;
      short-join = join_any;
      long-ones = long_ones_any;
      long-ones-later = long_ones_later_any;
      zero-fills = zero_fills_any;
      one-fills = one_fills_any;
    }

-- The first case worked by hand: w and g are 2.
pub by_hand_short : Holds (Solved
    (row 0 4 0 0 ++ row 0 2 0 0 ++ row 4 0 1 0)
    (figures 2 3 1 2 4 0)
    (piece 0 0 2 0 0 3 ++ piece 0 2 2 0 0 1 ++ piece 1 2 2 0 0 1)
    4)
by_hand_short = (short_sides_every_width.long-first 2 2 (omega arith) (omega arith) (omega arith)).0
