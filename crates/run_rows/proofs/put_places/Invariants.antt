-- `put_places` meets its contract: a place, and the stretch behind it. Assumes nothing.
use Prim.Native.Nat.{◌-◌}
use Rattle.run_rows.proofs.Lining.{RowsGoing}
use Rattle.run_rows.proofs.put_places.Given as goal

abbrev pub invariant-loop-i : goal.invariant-loop-i
invariant-loop-i l = RowsGoing l.n l.marks l.links l.last l.after l.before l.initial.numbers l.initial.answer l.numbers l.answer l.p l.i

abbrev pub decreases-loop-i : goal.decreases-loop-i
decreases-loop-i l = l.n - l.i
