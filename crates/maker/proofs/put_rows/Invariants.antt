-- `put_rows` meets its contract: the invariant is `Filling`, of proofs/Filling.antt. Assumes nothing.
use Rattle.maker.proofs.Filling.{Filling}
use Rattle.maker.proofs.put_rows.Given as goal

abbrev pub invariant-loop-i : goal.invariant-loop-i
invariant-loop-i l = Filling l.answer l.fresh l.starts l.initial.out l.out l.at l.i
