-- `home_fine` meets its contract: each way out has its law in proofs/Stores.antt. Assumes nothing.
use Rattle.homes.proofs.Stores.{own_fine, own_wrong, other_fine, other_wrong}
use Rattle.homes.proofs.home_fine.Goals as goal

pub returns-then-home-variable : goal.returns-then-home-variable
returns-then-home-variable c =
    own_fine _ _ _ _ _ _ _ _ _ c.from-at.ensures c.from-source.ensures c.load-home.ensures c.load-bit.ensures c.if-from-i.true c.if-home-variable.true

pub returns-else-home-variable : goal.returns-else-home-variable
returns-else-home-variable c =
    own_wrong _ _ _ _ _ _ _ _ _ c.from-at.ensures c.from-source.ensures c.load-home.ensures c.load-bit.ensures c.if-from-i.true c.if-home-variable.false

pub returns-then-home-load : goal.returns-then-home-load
returns-then-home-load c =
    other_fine _ _ _ _ _ _ _ _ _ c.from-at.ensures c.from-source.ensures c.load-home.ensures c.load-bit.ensures c.if-from-i.false _ _ c.load.ensures c.load-then-home-load.ensures c.if-home-load.true

pub returns-else-home-load : goal.returns-else-home-load
returns-else-home-load c =
    other_wrong _ _ _ _ _ _ _ _ _ c.from-at.ensures c.from-source.ensures c.load-home.ensures c.load-bit.ensures c.if-from-i.false _ c.load.ensures c.if-home-load.false
