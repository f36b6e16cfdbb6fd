-- `leave_off_revised` meets its contract: the invariant is `Counted`, of proofs/Revised.antt. Assumes nothing.
use Rattle.copies.proofs.Revised.{Counted}
use Rattle.copies.proofs.leave_off_revised.Given as goal

abbrev pub invariant-loop-r : goal.invariant-loop-r
invariant-loop-r l = Counted l.initial.table l.table l.r
