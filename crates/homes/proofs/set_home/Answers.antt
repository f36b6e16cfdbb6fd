-- `set_home` meets its contract: what the marking tells of the home row. Assumes nothing.
use Rattle.homes.proofs.Setting.{home_set}
use Rattle.homes.proofs.set_home.Goals as goal

pub returns : goal.returns
returns c = home_set _ _ _ _ _ _ _ c.mark_first-more.auto.firsts c.mark_first-more.ensures _ c.home_row-from.ensures _ c.copy_home.ensures
