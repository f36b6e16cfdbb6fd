-- `begin` meets its contract: proofs/Beginning.antt. Assumes nothing.
use Rattle.run_classes.proofs.Beginning.{runs_begun}
use Rattle.run_classes.proofs.begin.Goals as goal

pub returns : goal.returns
returns c =
    λ table widths placed len r₁ r₂.
    let s = c.args in
    runs_begun table widths s.places.now s.links.now s.last.now s.first.now _ _ _ c.min-from.result c.narrow-sources.result placed len r₁ r₂
    c.min-from.ensures c.unlink.ensures c.unlink.auto.links c.narrow-sources.ensures c.start.ensures c.start.auto.last c.start.auto.first
