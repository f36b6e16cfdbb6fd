-- `merge` meets its contract: what was found and what the rests will give is what all give. Assumes nothing.
use mathlib.Core.Path.{◌≡◌}
use Prim.Native.Nat.{◌+◌, ◌-◌}
use lib.ListN.{length}
use Rattle.merger.proofs.Passing.{Reached}
use Rattle.merger.proofs.merge.Given as goal

abbrev pub invariant-loop-s : goal.invariant-loop-s
invariant-loop-s l = Reached l.plan l.k l.sent l.received l.s × (length l.window ≡ length l.initial.window)

abbrev pub decreases-loop-s : goal.decreases-loop-s
decreases-loop-s l = (length l.sent - l.s.i) + (length l.received - l.s.j)
