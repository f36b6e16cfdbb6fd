-- `compare_links` meets its contract: both directions, and the outcome. Assumes nothing.
use Rattle.comparer.proofs.Comparing.{outcome_found}
use Rattle.comparer.proofs.compare_links.Goals as goal

pub returns : goal.returns
returns c = outcome_found _ _ _ _ _ _ _ _ c.among-to.ensures c.among-back.ensures c.outcome.ensures
