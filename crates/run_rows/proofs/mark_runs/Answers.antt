-- `mark_runs` meets its contract: run by run, the marks are those of the places passed. Assumes nothing.
use Rattle.run_rows.proofs.Lining.{runs_first, runs_more}
use Rattle.run_rows.proofs.mark_runs.Goals as goal

pub loop-k-init : goal.loop-k-init
loop-k-init c = runs_first _ _ _ _ _ _

pub loop-k-preserved : goal.loop-k-preserved
loop-k-preserved c = runs_more _ _ _ _ _ _ _ _ c.loop-k.invariant c.loop-k-test.true _ _ _ _ _ _ c.from.ensures c.load.ensures c.saturating_sub-end.ensures c.min.ensures c.max-t.ensures c.mark_run.ensures c.mark_run.auto.uneven
