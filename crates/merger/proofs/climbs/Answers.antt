-- `climbs` meets its contract. Assumes nothing.
use borrow.Author.Tests.{lt-ltb, le-ltb, le-leb}
use Rattle.merger.specs.inner.Passing.{climbs_at}
use Rattle.merger.proofs.climbs.Goals as goal

pub returns-then-numbers-i : goal.returns-then-numbers-i
unfolding climbs_at
returns-then-numbers-i c = rw (le-leb _ _ c.if-numbers-i.true, le-ltb _ _ c.if-numbers-i.true)

pub returns-else-numbers-i : goal.returns-else-numbers-i
unfolding climbs_at
returns-else-numbers-i c = rw (lt-ltb _ _ c.if-numbers-i.false)
