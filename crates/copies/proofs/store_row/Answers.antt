-- `store_row` meets its contract. Assumes nothing.
use Rattle.copies.specs.inner.Shortened.{stored_row}
use Rattle.copies.proofs.store_row.Goals as goal

pub returns : goal.returns
unfolding stored_row
returns c = rw (← c.min-at.ensures) c.store_four.ensures
