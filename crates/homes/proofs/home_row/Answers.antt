-- `home_row` meets its contract. Assumes nothing.
use borrow.Author.Tests.{lt-ltb, le-ltb}
use Rattle.homes.specs.inner.Homes.{home_in}
use Rattle.homes.proofs.home_row.Goals as goal

pub returns-then-row-lt-FRESH : goal.returns-then-row-lt-FRESH
unfolding home_in
returns-then-row-lt-FRESH c = rw (lt-ltb _ _ c.if-row-lt-FRESH.true)

pub returns-else-row-lt-FRESH : goal.returns-else-row-lt-FRESH
unfolding home_in
returns-else-row-lt-FRESH c = rw (le-ltb _ _ c.if-row-lt-FRESH.false, ← c.from.ensures) c.load.ensures
