-- `widen` meets its contract: the invariant is `Widening`, of proofs/Widening.antt. Assumes nothing.
use Rattle.homes.proofs.Widening.{widening_first, widening_more}
use Rattle.homes.proofs.widen.Goals as goal

pub loop-i-init : goal.loop-i-init
loop-i-init c = widening_first _ _

pub loop-i-preserved : goal.loop-i-preserved
loop-i-preserved c =
    widening_more _ _ _ _ _ _ c.loop-i.invariant c.loop-i-test.true _ c.four_at-row.ensures _ c.width_on-passed.ensures _ c.saturating_sub.ensures _ c.put_row.auto.answer c.put_row.ensures
