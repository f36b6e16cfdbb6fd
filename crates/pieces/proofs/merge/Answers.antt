-- `merge` meets its contract. Assumes nothing.
use Rattle.pieces.specs.inner.Pieces.{merged_in}
use borrow.Author.Tests.{lt-ltb, le-ltb}
use Rattle.pieces.proofs.merge.Goals as goal

pub returns-then-p-lt2 : goal.returns-then-p-lt2
unfolding merged_in
returns-then-p-lt2 c = rw (lt-ltb _ _ c.if-p-lt2.true)

pub returns-else-p-lt2 : goal.returns-else-p-lt2
unfolding merged_in
returns-else-p-lt2 c = rw (le-ltb _ _ c.if-p-lt2.false)
