-- `settle_run` meets its contract. Assumes nothing.
use Rattle.run_sweep.proofs.Sweeping.{settle_kept, settle_link}
use Rattle.run_sweep.proofs.settle_run.Goals as goal

pub returns-then-g-lt2 : goal.returns-then-g-lt2
returns-then-g-lt2 c =
    settle_kept _ _ _ _ _ _ _ c.from.ensures c.load-g.ensures c.rest-len.ensures c.then-g-lt2.either

pub returns : goal.returns
returns c =
    settle_link _ _ _ _ _ _ _ c.from.ensures c.load-g.ensures c.rest-len.ensures _ _ _ _ _ _ _ _ c.if-g-lt2.false c.if-x-g.false c.rest.ensures
    c.min.ensures c.min-m.ensures c.from-2.ensures c.load-to.ensures c.carve.ensures
