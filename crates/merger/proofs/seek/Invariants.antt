-- `seek` meets its contract: what was passed is in no pair. Assumes nothing.
use Prim.Native.Nat.{◌+◌, ◌-◌}
use lib.ListN.{length}
use Rattle.merger.proofs.Passing.{Seeking}
use Rattle.merger.proofs.seek.Given as goal

abbrev pub invariant-loop-a : goal.invariant-loop-a
invariant-loop-a l = Seeking l.k l.sent l.received l.s l.i l.j l.a l.b

abbrev pub decreases-loop-a : goal.decreases-loop-a
decreases-loop-a l = (length l.sent - l.i) + (length l.received - l.j)
