-- `fixed` meets its contract. Assumes nothing.
use borrow.Author.Tests.{eq-eqb, ne_eqb}
use Rattle.evaluator.specs.inner.Ready.{is_fixed}
use Rattle.evaluator.proofs.fixed.Goals as goal

pub returns-then-kind-eq-CONSTANT : goal.returns-then-kind-eq-CONSTANT
unfolding is_fixed
returns-then-kind-eq-CONSTANT c = rw (eq-eqb _ _ c.if-kind-eq-CONSTANT.true)

pub returns-else-kind-eq-CONSTANT : goal.returns-else-kind-eq-CONSTANT
unfolding is_fixed
returns-else-kind-eq-CONSTANT c = rw (ne_eqb _ _ c.if-kind-eq-CONSTANT.false)
