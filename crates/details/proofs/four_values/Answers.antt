-- `four_values` meets its contract: its numbers one behind the other. Assumes nothing.
use mathlib.Core.List.{◌++◌}
use mathlib.Core.Path.{refl}
use Prim.Native.Nat.{ℕ, ◌≤◌}
use native.Mathlib.Omega.{arith}
use lib.ListN.{length}
use Rattle.sheets.specs.Print.{field}
use Rattle.sheets.proofs.Lengths.{field_few, field_more}
use Rattle.lines.specs.inner.Push.{fields}
use Rattle.lines.proofs.Pushing.{whole_line}
use Rattle.details.specs.inner.Printing.{four_line}
use Rattle.details.proofs.four_values.Goals as goal

-- a line of four values has at most 80 bytes
four-few : (a b c d : ℕ) → length (field a 32 ++ (field b 32 ++ (field c 32 ++ field d 10))) ≤ 80
four-few a b c d =
    let l : length (field a 32 ++ (field b 32 ++ (field c 32 ++ field d 10))) ≤ 44 = field_more _ _ 33 _ (field_more _ _ 22 _ (field_more _ _ 11 _ (field_few _ _))) in
    omega (arith, l)

pub returns : goal.returns
unfolding four_line fields
returns c =
    whole_line _ _ _ (four-few _ _ _ _) refl (rw (← c.from.ensures, ← c.from-2.ensures, ← c.from-3.ensures, ← c.from-4.ensures) c.values.ensures)
