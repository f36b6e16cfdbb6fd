-- `link` meets its contract: a conflict was met, or the links are settled. Assumes nothing.
use Rattle.comparer.proofs.Comparing.{linked}
use Rattle.comparer.proofs.link.Goals as goal

pub returns : goal.returns
returns c =
    λ placed form sources.
    let d = c.table_classes-taken in
    linked _ placed.numbered.accepted _ _ _ (d.ensures placed form sources)
