-- `fit` meets its contract. Assumes nothing.
use borrow.Author.Tests.{lt-ltb, le-ltb}
use Rattle.rows.specs.inner.Held.{fitting}
use Rattle.rows.proofs.fit.Goals as goal

pub returns-then-n-room : goal.returns-then-n-room
unfolding fitting
returns-then-n-room c = simp (lt-ltb _ _ c.if-n-room.true)

pub returns-else-n-room : goal.returns-else-n-room
unfolding fitting
returns-else-n-room c = simp (le-ltb _ _ c.if-n-room.false)
