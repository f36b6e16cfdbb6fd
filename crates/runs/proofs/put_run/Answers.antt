-- `put_run` meets its contract: the invariant is `Putting`, of proofs/Putting.antt. Assumes nothing.
use mathlib.Core.Path.{refl}
use Rattle.runs.proofs.Putting.{putting_first, putting_more}
use Rattle.runs.proofs.put_run.Goals as goal

pub loop-at-init : goal.loop-at-init
loop-at-init c = putting_first _ _ _ _ _ _ _ c.saturating_sub.ensures c.min-len.ensures

pub loop-at-preserved : goal.loop-at-preserved
loop-at-preserved c = putting_more _ _ _ _ _ _ _ _ _ c.loop-at.invariant c.loop-at-test.true refl
