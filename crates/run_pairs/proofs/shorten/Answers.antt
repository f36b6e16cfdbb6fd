-- `shorten` meets its contract. Assumes nothing.
use Rattle.run_pairs.proofs.Taking.{shorten_run}
use Rattle.run_pairs.proofs.shorten.Goals as goal

pub returns : goal.returns
returns c = shorten_run _ _ _ _ _ _ _ _ _ _ _ c.if-x-root.false c.rest.ensures c.min-len.ensures c.carve.ensures c.carve.auto.links c.carve.auto.last c.carve.auto.first
