-- `mark_uneven` meets its contract: with k places passed the marks are those of the first k. Assumes nothing.
use native.Mathlib.Omega.{arith}
use Rattle.borders.proofs.Sweeping.{swept_first, swept_more}
use Rattle.borders.proofs.mark_uneven.Goals as goal

pub loop-k-init : goal.loop-k-init
loop-k-init c = (omega arith, swept_first _ _ _ _)

pub loop-k-preserved : goal.loop-k-preserved
loop-k-preserved c = (omega (arith, c.loop-k-test.true), swept_more _ _ _ _ _ _ _ c.loop-k.invariant.1 c.mark_place.auto.uneven c.mark_place.ensures)
