-- `hexadecimal` meets its contract. The loop's invariant: the digits from here on, after the value so far, give the number that stands at
-- the start, and the value has room in the digits read. Assumes nothing.
use mathlib.Core.Path.{◌≡◌}
use Prim.Native.Nat.{◌≤◌, ◌<◌, ◌-◌, ◌^◌}
use lib.ListN.{length, drop}
use Rattle.sheets.specs.Text.{more_hex_digits, hexadecimal_at}
use Rattle.cursor.proofs.Cursor.hexadecimal.Given as goal

abbrev pub invariant-loop-d : goal.invariant-loop-d
invariant-loop-d l =
    (l.i ≤ length l.text) × ((l.more ≤ 3) × ((l.v < 16 ^ (4 - l.more)) × (more_hex_digits l.more l.v l.i (drop l.i l.text) ≡ hexadecimal_at l.text l.from)))

abbrev pub decreases-loop-d : goal.decreases-loop-d
decreases-loop-d l = length l.text - l.i
