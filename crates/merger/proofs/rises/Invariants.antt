-- `rises` meets its contract: from the record at i on the counters rise exactly if all do. Assumes nothing.
use Prim.Native.Nat.{◌-◌, ◌≤◌}
use lib.ListN.{length}
use Rattle.merger.specs.inner.Passing.{Tested}
use Rattle.merger.proofs.rises.Given as goal

abbrev pub invariant-loop-i : goal.invariant-loop-i
invariant-loop-i l = Tested l.k l.numbers l.i × (length l.numbers ≤ 65535)

abbrev pub decreases-loop-i : goal.decreases-loop-i
decreases-loop-i l = length l.numbers - l.i
