-- `put_rows` meets its contract: short lists where they do. Assumes nothing.
use Rattle.borders.proofs.Answering.{few_sources}
use Rattle.borders.proofs.put_rows.Goals as goal

pub returns-then-links-le-FEW : goal.returns-then-links-le-FEW
returns-then-links-le-FEW c = c.put_within.ensures c.if-links-le-FEW.true

pub returns-else-links-le-FEW : goal.returns-else-links-le-FEW
returns-else-links-le-FEW c = few_sources _ _ _ _ _ _ c.put_within-else-links-le-FEW.ensures
