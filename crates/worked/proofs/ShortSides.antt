-- The cases of short sides against long sides hold: each is worked out to itself. Assumes nothing.
use mathlib.Core.Path.{refl}
use Rattle.worked.specs.Cases.{AllHold, nothing}
use Rattle.worked.specs.ShortSides.{short_sides}
use Rattle.worked.proofs.WorkedOut.{◌tested◌, case_computed}

pub all_short_sides : AllHold short_sides
unfolding case_computed
all_short_sides =
    refl tested refl tested refl tested
    refl tested refl tested
    refl tested refl tested refl tested
    refl tested refl tested
    refl tested
    nothing
