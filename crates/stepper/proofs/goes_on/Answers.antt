-- `goes-on` meets its contract. Assumes nothing.
use mathlib.Core.Path.{refl}
use borrow.Author.Tests.{eq-eqb, ne_eqb}
use Rattle.steps.specs.inner.Steps.{goes_on}
use Rattle.stepper.proofs.goes_on.Goals as goal

pub returns-then-outcome-eq0 : goal.returns-then-outcome-eq0
unfolding goes_on
returns-then-outcome-eq0 c = rw (eq-eqb _ _ c.if-outcome-eq0.true) refl

pub returns-else-outcome-eq0 : goal.returns-else-outcome-eq0
unfolding goes_on
returns-else-outcome-eq0 c = rw (ne_eqb _ _ c.if-outcome-eq0.false) refl
