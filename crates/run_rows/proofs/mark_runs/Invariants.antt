-- `mark_runs` meets its contract: run by run, the marks are those of the places passed. Assumes nothing.
use Prim.Native.Nat.{◌-◌}
use Rattle.run_rows.proofs.Lining.{RunsMarked}
use Rattle.run_rows.proofs.mark_runs.Given as goal

abbrev pub invariant-loop-k : goal.invariant-loop-k
invariant-loop-k l = RunsMarked l.marks l.links l.last l.side l.n l.k l.initial.uneven l.uneven

abbrev pub decreases-loop-k : goal.decreases-loop-k
decreases-loop-k l = l.n - l.k
