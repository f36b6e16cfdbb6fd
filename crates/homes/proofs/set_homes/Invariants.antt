-- `set_homes` meets its contract: the invariant is `Setting`, of proofs/Setting.antt. Assumes nothing.
use Rattle.homes.proofs.Setting.{Setting}
use Rattle.homes.proofs.set_homes.Given as goal

abbrev pub invariant-loop-i : goal.invariant-loop-i
invariant-loop-i l = Setting l.rows l.initial.answer l.answer l.initial.firsts l.firsts l.seen l.i
