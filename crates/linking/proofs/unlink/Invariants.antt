-- `unlink` meets its contract: the links below i are themselves. Assumes nothing.
use mathlib.Core.Path.{◌≡◌}
use Prim.Native.Nat.{◌≤◌}
use lib.ListN.{length}
use Rattle.laws.specs.Lists.{count_up}
use Rattle.laws.specs.Buffers.{overwrite}
use Rattle.linking.proofs.unlink.Given as goal

abbrev pub invariant-loop-i : goal.invariant-loop-i
invariant-loop-i l = length l.initial.links ≤ 65536 → l.links ≡ overwrite (count_up 0 l.i) l.initial.links
