-- `put_row` meets its contract: four stores where there is room, and none elsewhere. Assumes nothing.
use borrow.Author.Tests.{lt-ltb, le-ltb}
use Rattle.rows.specs.inner.Held.{put_row, put_whole}
use Rattle.rows.proofs.put_row.Goals as goal

pub returns-then-k-table : goal.returns-then-k-table
unfolding put_whole put_row
returns-then-k-table c = rw (lt-ltb _ _ c.if-k-table.true) c.store_four.ensures

pub returns-else-k-table : goal.returns-else-k-table
unfolding put_whole
returns-else-k-table c = rw (le-ltb _ _ c.if-k-table.false)
