-- `put_row` meets its contract: six stores side by side. Assumes nothing.
use Rattle.homes.specs.inner.Homes.{row_put}
use Rattle.laws.specs.Buffers.{set_four}
use Rattle.homes.proofs.put_row.Goals as goal

pub returns : goal.returns
unfolding row_put set_four
returns c = rw c.from-at.ensures

pub returns-then-answer-at : goal.returns-then-answer-at
unfolding row_put
returns-then-answer-at c = rw (c.store-then-answer-at.ensures, c.store.ensures, c.store_four.ensures, c.from-at.ensures)
