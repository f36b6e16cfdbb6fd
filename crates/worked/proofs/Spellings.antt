-- The spellings of numbers in a sheet: each sheet of the list is read, or refused, as it says; and the line of a marker is what is written of
-- its row in a spelling. Assumes nothing.
use mathlib.Core.Path.{◌≡◌, refl}
use Rattle.worked.specs.Cases.{AllHold, nothing, line}
use Rattle.worked.specs.Spellings.{spellings}
use Rattle.worked.proofs.WorkedOut.{◌tested◌, case_computed}
use Rattle.sheets.specs.Writing.{digits, decimal, hex_digit, hex_digits, has_room, spelled, column, value_in, line_in}

pub all-spellings : AllHold spellings
unfolding case_computed
all-spellings =
    refl tested refl tested refl tested refl tested
    refl tested
    refl tested refl tested
    refl tested refl tested refl tested refl tested refl tested refl tested refl tested refl tested refl tested refl tested refl tested
    refl tested refl tested refl tested
    nothing

pub marker_written : line_in (record { first = 0; second = 1; third = 2; fourth = 3 }) (record { first = 0; second = 4; third = 0; fourth = 0 })
    (record { kind = 5; a = 44257; b = 16; c = 0 })
    ≡ line "5 hace1 16 0"
unfolding digits decimal hex_digit hex_digits has_room spelled column value_in line_in
marker_written = refl
