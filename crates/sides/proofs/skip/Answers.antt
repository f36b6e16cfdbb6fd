-- `skip` meets its contract. Assumes nothing.
use Rattle.sides.specs.inner.Reading.{risen}
use Rattle.sides.proofs.skip.Goals as goal

pub returns : goal.returns
unfolding risen
returns c = rw c.saturating_sub.ensures
