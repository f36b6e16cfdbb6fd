-- `alike` meets its contract: as long as every pair so far links alike, so many do. Assumes nothing.
use Prim.Native.Nat.{◌≤◌}
use Rattle.taking.proofs.Passing.{Counted}
use Rattle.taking.proofs.alike.Given as goal

abbrev pub invariant-loop-i : goal.invariant-loop-i
invariant-loop-i l = (l.i ≤ 8) × Counted l.x l.y l.same l.i
