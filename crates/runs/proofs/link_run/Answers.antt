-- `link_run` meets its contract. Assumes nothing.
use Rattle.runs.proofs.Cutting.{links-run}
use Rattle.runs.proofs.link_run.Goals as goal

pub returns : goal.returns
returns c = links-run _ _ _ _ _ _ _ _ c.from.ensures c.from-2.ensures c.pace.ensures c.put_run.ensures
