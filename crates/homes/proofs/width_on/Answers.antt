-- `width_on` meets its contract. Assumes nothing.
use borrow.Author.Tests.{eq-eqb, ne_eqb}
use Rattle.homes.specs.inner.Homes.{width_on}
use Rattle.homes.proofs.width_on.Goals as goal

pub returns-then-row-variable : goal.returns-then-row-variable
unfolding width_on
returns-then-row-variable c = rw (eq-eqb _ _ c.if-row-variable.true)

pub returns-else-row-variable : goal.returns-else-row-variable
unfolding width_on
returns-else-row-variable c = rw (ne_eqb _ _ c.if-row-variable.false)
