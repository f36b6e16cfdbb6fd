-- `leave_off_revised` meets its contract: the invariant is `Counted`, of proofs/Revised.antt. Assumes nothing.
use Rattle.copies.proofs.Revised.{counted_first, counted_more, counted_done}
use Rattle.copies.proofs.leave_off_revised.Goals as goal

pub loop-r-init : goal.loop-r-init
loop-r-init c = counted_first _

pub loop-r-preserved : goal.loop-r-preserved
loop-r-preserved c =
    counted_more _ _ _ c.loop-r.invariant _ c.min-rows.ensures c.loop-r-test.true _
    c.leave_off.auto.table
    c.leave_off.ensures

pub returns : goal.returns
returns c = λ few. counted_done _ _ _ c.loop-r.invariant _ c.min-rows.ensures few c.loop-r-test.false
