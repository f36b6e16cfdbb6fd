-- `put_homes` meets its contract. Assumes nothing.
use Rattle.homes.proofs.Tables.{puts_homes}
use Rattle.homes.proofs.put_homes.Goals as goal

pub returns : goal.returns
returns c = puts_homes _ _ _ _ _ _ c.narrow-count.ensures c.widen.ensures c.set_homes.ensures
