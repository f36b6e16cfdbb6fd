-- `mark_uneven` meets its contract: with k places passed the marks are those of the first k. Assumes nothing.
use Prim.Native.Nat.{◌≤◌}
use Rattle.borders.proofs.Sweeping.{Swept}
use Rattle.borders.proofs.mark_uneven.Given as goal

abbrev pub invariant-loop-k : goal.invariant-loop-k
invariant-loop-k l = (l.k ≤ l.n) × Swept l.marks l.links l.side l.k l.initial.uneven l.uneven
