-- `put_run` meets its contract: the invariant is `Putting`, of proofs/Putting.antt. Assumes nothing.
use Rattle.runs.proofs.Putting.{Putting}
use Rattle.runs.proofs.put_run.Given as goal

abbrev pub invariant-loop-at : goal.invariant-loop-at
invariant-loop-at l = Putting l.from l.len l.x l.step l.initial.buffer l.buffer l.at l.y
