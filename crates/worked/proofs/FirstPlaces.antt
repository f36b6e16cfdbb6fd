-- The cases of pieces that name their first place hold: each is worked out to itself. Assumes nothing.
use mathlib.Core.Path.{refl}
use Rattle.worked.specs.Cases.{AllHold, nothing}
use Rattle.worked.specs.FirstPlaces.{first_places}
use Rattle.worked.proofs.WorkedOut.{◌tested◌, case_computed}

pub all_first_places : AllHold first_places
unfolding case_computed
all_first_places = refl tested refl tested refl tested refl tested nothing
