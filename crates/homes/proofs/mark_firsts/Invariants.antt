-- `mark_firsts` meets its contract: the invariant is `Marking`, of proofs/Testing.antt. Assumes nothing.
use Rattle.homes.proofs.Testing.{Marking}
use Rattle.homes.proofs.mark_firsts.Given as goal

abbrev pub invariant-loop-i : goal.invariant-loop-i
invariant-loop-i l = Marking l.rows l.answer l.initial.firsts l.firsts l.seen l.i
