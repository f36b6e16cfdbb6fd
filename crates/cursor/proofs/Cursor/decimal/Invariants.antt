-- `decimal` meets its contract. The loop's invariant: the digits from here on, after the value so far, give the number that stands at the
-- start. Assumes nothing.
use mathlib.Core.Path.{◌≡◌}
use Prim.Native.Nat.{◌≤◌, ◌-◌}
use lib.ListN.{length, drop}
use Rattle.sheets.specs.Text.{more_digits, decimal_at}
use Rattle.cursor.proofs.Cursor.decimal.Given as goal

abbrev pub invariant-loop-d : goal.invariant-loop-d
invariant-loop-d l = (l.i ≤ length l.text) × ((l.v ≤ 65535) × (more_digits l.v l.i (drop l.i l.text) ≡ decimal_at l.text l.from))

abbrev pub decreases-loop-d : goal.decreases-loop-d
decreases-loop-d l = length l.text - l.i
