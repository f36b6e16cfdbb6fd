-- `widen` meets its contract: the invariant is `Widening`, of proofs/Widening.antt. Assumes nothing.
use Rattle.homes.proofs.Widening.{Widening}
use Rattle.homes.proofs.widen.Given as goal

abbrev pub invariant-loop-i : goal.invariant-loop-i
invariant-loop-i l = Widening l.rows l.initial.answer l.answer l.passed l.variable l.i
