-- Document 01's cases 1 to 10 hold: one theorem for the whole list. A case is worked out to itself (refl), or it is one of those at every
-- width. Assumes nothing.
use mathlib.Core.Path.{refl}
use native.Mathlib.Omega.{arith}
use Rattle.worked.specs.Cases.{AllHold, nothing, ◌and◌, cases}
use Rattle.worked.proofs.WorkedOut.{◌tested◌, case_computed}
use Rattle.worked.proofs.AnyWidth.{filled_any, chained_any}

pub all-cases : AllHold cases
unfolding case_computed
all-cases =
    -- 1
    refl tested refl tested refl tested
    -- 2
    refl tested
    -- 3
    refl tested
    -- 4
    refl tested
    -- 5
    refl tested
    -- 6
    refl tested
    -- 7
    refl tested
    filled_any 1024 (omega arith) (omega arith)
    and chained_any 1024 (omega arith) (omega arith) (omega arith)
    and refl tested
    -- 8
    refl tested refl tested
    -- 9
    refl tested
    -- 10
    refl tested refl tested nothing
