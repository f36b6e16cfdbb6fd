-- `mark` meets its contract. Assumes nothing.
use borrow.Author.Tests.{eq-eqb, ne_eqb}
use Rattle.details.specs.inner.Printing.{mark_at}
use Rattle.details.proofs.mark.Goals.{else-step-ne0-via-else-step-ne0, else-step-ne0-via-then-step-ne0+else-i-step}
use Rattle.details.proofs.mark.Goals as goal

pub returns-then-i-step : goal.returns-then-i-step
unfolding mark_at
returns-then-i-step c = rw (ne_eqb _ _ c.if-step-ne0.true, eq-eqb _ _ c.if-i-step.true)

pub returns-else-step-ne0 : goal.returns-else-step-ne0
unfolding mark_at
returns-else-step-ne0 c =
    elim c.else-step-ne0.branch [
      | else-step-ne0-via-else-step-ne0 w ↦ rw (eq-eqb _ _ w.if-step-ne0.false)
      | else-step-ne0-via-then-step-ne0+else-i-step w ↦ rw (ne_eqb _ _ w.if-step-ne0.true, ne_eqb _ _ w.if-i-step.false)
    ]
