-- `mark_run` meets its contract: a run of one place, of two, or of more. Assumes nothing.
use mathlib.Core.Path.{refl}
use Rattle.run_rows.proofs.Lining.{run_one, run_two, run_more}
use Rattle.run_rows.proofs.mark_run.Goals as goal

pub returns-then-t-k : goal.returns-then-t-k
returns-then-t-k c = run_one _ _ _ _ _ _ _ c.mark_place.ensures c.mark_place.auto.uneven c.if-t-k.true

pub returns-then-t-second : goal.returns-then-t-second
returns-then-t-second c = run_two _ _ _ _ _ _ _ c.mark_place.ensures c.mark_place.auto.uneven _ _ c.if-t-k.false refl c.if-t-second.true c.mark_place-then-t-second.ensures c.mark_place-then-t-second.auto.uneven

pub returns : goal.returns
returns c = run_more _ _ _ _ _ _ _ c.mark_place.ensures c.mark_place.auto.uneven _ _ _ c.if-t-k.false refl c.if-t-second.false c.mark_place-2.ensures c.mark_place-2.auto.uneven c.mark_place-3.ensures c.mark_place-3.auto.uneven
