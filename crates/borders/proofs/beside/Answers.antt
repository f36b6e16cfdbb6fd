-- `beside` meets its contract. Assumes nothing.
use Rattle.borders.proofs.Steps.{beside_open, beside_shut}
use Rattle.borders.proofs.beside.Goals as goal

pub returns-then-load-eq0 : goal.returns-then-load-eq0
returns-then-load-eq0 c = beside_open _ _ _ _ _ _ _ c.from.ensures c.from-2.ensures c.load.ensures c.if-load-eq0.true _ _ c.from-then-load-eq0.ensures c.load-then-load-eq0.ensures

pub returns-else-load-eq0 : goal.returns-else-load-eq0
returns-else-load-eq0 c = beside_shut _ _ _ _ _ _ _ c.from.ensures c.from-2.ensures c.load.ensures c.if-load-eq0.false
