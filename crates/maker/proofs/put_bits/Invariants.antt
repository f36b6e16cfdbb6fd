-- `put_bits` meets its contract: the invariant is `Putting`, of proofs/Filling.antt. Assumes nothing.
use Rattle.maker.proofs.Filling.{Putting}
use Rattle.maker.proofs.put_bits.Given as goal

abbrev pub invariant-loop-j : goal.invariant-loop-j
invariant-loop-j l = Putting l.fresh l.start l.kind l.width l.initial.out l.from l.out l.at l.j
