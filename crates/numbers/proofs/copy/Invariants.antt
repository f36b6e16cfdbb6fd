-- `copy` meets its contract: i numbers are copied. Assumes nothing.
use Rattle.laws.specs.Buffers.{overwrite}
use lib.ListN.{length, take}
use Prim.Native.Nat.{◌≤◌}
use mathlib.Core.Path.{◌≡◌}
use Rattle.numbers.proofs.copy.Given as goal

abbrev pub invariant-loop-i : goal.invariant-loop-i
invariant-loop-i l = (l.i ≤ length l.from) × (length l.table ≡ length l.initial.table) × (l.table ≡ overwrite (take l.i l.from) l.initial.table)
