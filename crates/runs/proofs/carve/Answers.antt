-- `carve` meets its contract. Assumes nothing.
use mathlib.Core.Path.{refl}
use Rattle.runs.proofs.Cutting.{carve_all}
use Rattle.runs.proofs.carve.Goals as goal

pub returns : goal.returns
returns c =
    carve_all _ _ _ _ _ _ _ _ _ _ _ _ _ _ _ _ _ _ _ c.from.ensures c.load-t.ensures c.from-2.ensures c.load-f.ensures
    c.cut_left.ensures c.cut_right.ensures c.cut_left.auto.last c.cut_left.auto.first c.cut_right.auto.first
    refl c.saturating_sub-hi.ensures c.from-3.ensures c.store.ensures c.link_run.ensures
