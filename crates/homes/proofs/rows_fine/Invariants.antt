-- `rows_fine` meets its contract: the invariant is `Testing`, of proofs/Testing.antt. Assumes nothing.
use Rattle.homes.proofs.Testing.{Testing}
use Rattle.homes.proofs.rows_fine.Given as goal

abbrev pub invariant-loop-i : goal.invariant-loop-i
invariant-loop-i l = Testing l.rows l.answer l.firsts l.passed l.variable l.i
