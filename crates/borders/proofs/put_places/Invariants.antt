-- `put_places` meets its contract: the invariant is `Putting`, of proofs/Placing.antt. Assumes nothing.
use Rattle.borders.proofs.Placing.{Putting}
use Rattle.borders.proofs.put_places.Given as goal

abbrev pub invariant-loop-i : goal.invariant-loop-i
invariant-loop-i l = Putting l.n l.marks l.links l.after l.before l.initial.numbers l.initial.answer l.numbers l.answer l.p l.i
