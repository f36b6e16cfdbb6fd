-- `put_piece` meets its contract. Assumes nothing.
use borrow.Author.Tests.{lt-ltb, le-ltb}
use Rattle.pieces.specs.inner.Pieces.{put_piece}
use Rattle.pieces.proofs.put_piece.Goals as goal

pub returns-then-i-out : goal.returns-then-i-out
unfolding put_piece
returns-then-i-out c = rw (lt-ltb _ _ c.if-i-out.true) c.store_four.ensures

pub returns-else-i-out : goal.returns-else-i-out
unfolding put_piece
returns-else-i-out c = rw (le-ltb _ _ c.if-i-out.false)
