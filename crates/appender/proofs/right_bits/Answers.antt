-- `right_bits` meets its contract. Assumes nothing.
use borrow.Author.Tests.{lt-ltb, le-ltb}
use Rattle.appender.specs.inner.Cuts.{right_bits}
use Rattle.appender.proofs.right_bits.Goals as goal

pub returns-then-right-cut : goal.returns-then-right-cut
unfolding right_bits
returns-then-right-cut c = rw (le-ltb _ _ c.if-right-cut.true)

pub returns-then-cut-right : goal.returns-then-cut-right
unfolding right_bits
returns-then-cut-right c = rw (lt-ltb _ _ c.if-right-cut.false, lt-ltb _ _ c.if-cut-right.true)

pub returns-else-cut-right : goal.returns-else-cut-right
unfolding right_bits
returns-else-cut-right c = rw (lt-ltb _ _ c.if-right-cut.false, le-ltb _ _ c.if-cut-right.false)
