-- `mark_begins` meets its contract: the invariant is `Marking`, of proofs/Marking.antt. Assumes nothing.
use Prim.Native.Nat.{◌≤◌}
use Rattle.borders.proofs.Marking.{Marking}
use Rattle.borders.proofs.mark_begins.Given as goal

abbrev pub invariant-loop-r : goal.invariant-loop-r
invariant-loop-r l = (l.r ≤ 512) × Marking l.table l.initial.marks l.marks l.bits l.r
