-- The cases of pieces that name their first place hold at every width; one worked by hand as an instance. Assumes nothing.
use mathlib.Core.List.{◌++◌}
use native.Mathlib.Omega.{arith}
use Rattle.worked.specs.Cases.{Solved, Holds, row, piece, figures}
use Rattle.worked.specs.FirstPlacesEveryWidth.{FirstPlacesAtEveryWidth}
use Rattle.worked.proofs.FirstPlacesAnyWidth.{two_fills_any, home_before_any, fill_before_any}

pub first_places_every_width : FirstPlacesAtEveryWidth
first_places_every_width = record { two-fills = two_fills_any; home-before = home_before_any; fill-before = fill_before_any }

-- The first case worked by hand: u, g and v are 1, and x is 2.
pub by_hand_home : Holds (Solved
    (row 0 3 0 0 ++ row 0 3 0 0 ++ row 1 0 1 0 ++ row 3 0 1 1 ++ row 4 3 2 0 ++ row 3 1 2 2 ++ row 4 5 2 0)
    (figures 2 5 3 4 2 0)
    (piece 0 2 1 0 0 2 ++ piece 0 0 1 0 0 1 ++ piece 0 2 1 1 0 0 ++ piece 1 0 1 0 1 2 ++ piece 1 2 2 2 1 1)
    16)
by_hand_home =
    first_places_every_width.two-fills 1 1 1 2 (omega arith) (omega arith) (omega arith) (omega arith) (omega arith) (omega arith)
