-- `take_pair` meets its contract: two that link to the same source say nothing new. Assumes nothing.
use Rattle.classes.proofs.Roots.{taken_alike}
use Rattle.classes.proofs.take_pair.Goals as goal

pub returns-then-p-q : goal.returns-then-p-q
returns-then-p-q c = λ low hs ht. taken_alike _ _ _ _ _ _ _ c.from.ensures c.load-p.ensures c.from-2.ensures c.load-q.ensures c.if-p-q.true low
