-- `left_bits` meets its contract. Assumes nothing.
use borrow.Author.Tests.{lt-ltb, le-ltb}
use Rattle.appender.specs.inner.Cuts.{left_bits}
use Rattle.appender.proofs.left_bits.Goals as goal

pub returns-then-cut-right : goal.returns-then-cut-right
unfolding left_bits
returns-then-cut-right c = rw (lt-ltb _ _ c.if-cut-right.true)

pub returns : goal.returns
unfolding left_bits
returns c = rw (le-ltb _ _ c.if-cut-right.false, c.saturating_sub.ensures)
