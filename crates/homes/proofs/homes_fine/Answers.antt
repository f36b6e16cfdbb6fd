-- `homes_fine` meets its contract. Assumes nothing.
use Rattle.homes.proofs.Testing.{tests_homes}
use Rattle.homes.proofs.homes_fine.Goals as goal

pub returns : goal.returns
returns c = tests_homes _ _ _ _ _ c.narrow-count.ensures c.mark_firsts.ensures c.rows_fine.ensures
