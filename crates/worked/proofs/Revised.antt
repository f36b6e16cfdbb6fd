-- The cases of revised equations hold: each is worked out to itself. Assumes nothing.
use mathlib.Core.Path.{refl}
use Rattle.worked.specs.Cases.{AllHold, nothing}
use Rattle.worked.specs.Revised.{revised_lines}
use Rattle.worked.proofs.WorkedOut.{◌tested◌, case_computed}

pub all-revised : AllHold revised_lines
unfolding case_computed
all-revised =
    refl tested refl tested
    refl tested refl tested
    refl tested refl tested
    refl tested refl tested
    nothing
