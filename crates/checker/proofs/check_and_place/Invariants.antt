-- `check_and_place` meets its contract: the invariants are `Checking` and `Placing`, of proofs/Checking.antt and proofs/Placing.antt; what is
-- left where the table is accepted is in proofs/Placed.antt. Assumes nothing.
use lib.ListN.{length}
use Rattle.checker.proofs.Checking.{Checking}
use Rattle.checker.proofs.Placing.{Placing}
use Rattle.checker.proofs.check_and_place.Given as goal

abbrev pub invariant-loop-r : goal.invariant-loop-r
invariant-loop-r l =
    Checking l.table l.initial.widths l.widths l.variables l.bits l.equations l.r × Placing l.table (length l.initial.places) l.places l.bits l.variables l.r
