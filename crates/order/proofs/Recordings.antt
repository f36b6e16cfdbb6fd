-- Two tables that compare as 0 give the same record on all recordings (document 02, (xii) and (xi)). Assumes nothing.
use mathlib.Core.Path.{◌≡◌}
use mathlib.Core.List.{List}
use Prim.Native.Nat.{ℕ}
use Rattle.recordings.specs.Call.{recordings_record}
use Rattle.recordings.proofs.Alike.{same_sheet}
use Rattle.inclusion.specs.Call.{compare_record}
use Rattle.inclusion.proofs.Theorems.{gives_0}

-- (g)
pub same_recordings : (first second : List ℕ) (room : ℕ) → (compare_record first second room).outcome ≡ 0
    → (sent received : List ℕ) → recordings_record first sent received ≡ recordings_record second sent received
same_recordings first second room z =
    let (c, same) = gives_0 first second room z in
    same_sheet first second c.first_accepted c.second_accepted c.same-variables same
