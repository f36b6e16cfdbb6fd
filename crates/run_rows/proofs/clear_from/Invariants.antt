-- `clear_from` meets its contract: those passed are clear. Assumes nothing.
use Prim.Native.Nat.{◌-◌, ◌≤◌}
use Rattle.run_rows.specs.inner.Lined.{AllClear}
use Rattle.run_rows.proofs.clear_from.Given as goal

abbrev pub invariant-loop-k : goal.invariant-loop-k
invariant-loop-k l = (l.k ≤ l.count) × AllClear l.after l.before l.from l.k

abbrev pub decreases-loop-k : goal.decreases-loop-k
decreases-loop-k l = l.count - l.k
