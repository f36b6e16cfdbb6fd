-- `form_of` meets its contract: what it makes of the two tests is in proofs/Reading.antt. Assumes nothing.
use mathlib.Core.Path.{ap}
use native.Mathlib.Omega.{arith}
use Rattle.std.specs.Prelude.{is_some}
use Rattle.shapes.proofs.Reading.{form_bad, form_tested, form_homeless}
use Rattle.shapes.proofs.form_of.Goals as goal

pub returns-in_err-found : goal.returns-in_err-found
returns-in_err-found c = rw c.from_residual.ensures (form_bad _ _ _ _ (λ space. c.read_form.ensures (omega arith) space) (ap is_some c.in_err-found.was))

pub returns-then-homes_fine : goal.returns-then-homes_fine
returns-then-homes_fine c =
    rw c.in_ok-found.was at
    (form_tested _ _ _ _ (λ space. c.read_form.ensures (omega arith) space) (ap is_some c.in_ok-found.was) _ _ c.homes_fine.ensures (omega arith) c.if-homes_fine.true)

pub returns-else-homes_fine : goal.returns-else-homes_fine
returns-else-homes_fine c =
    form_homeless _ _ _ _ (λ space. c.read_form.ensures (omega arith) space) (ap is_some c.in_ok-found.was) _ _ c.homes_fine.ensures (omega arith) c.if-homes_fine.false
