-- `outside` meets its contract. Assumes nothing.
use borrow.Author.Tests.{ne_eqb}
use Rattle.terms.specs.Faults.{outside}
use Rattle.rules.proofs.outside.Goals as goal

pub returns-then-width-eq0 : goal.returns-then-width-eq0
unfolding outside
returns-then-width-eq0 c = rw c.if-width-eq0.true

pub returns-else-width-eq0 : goal.returns-else-width-eq0
unfolding outside
returns-else-width-eq0 c = rw (ne_eqb _ _ c.if-width-eq0.false)
