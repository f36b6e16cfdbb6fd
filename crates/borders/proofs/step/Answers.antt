-- `step` meets its contract. Assumes nothing.
use mathlib.Core.Path.{refl}
use Rattle.borders.proofs.Steps.{step_on, step_new}
use Rattle.borders.proofs.step.Goals as goal

pub returns-then-on : goal.returns-then-on
returns-then-on c = step_on _ _ _ _ _ _ _ _ _ c.from-at.ensures c.load.ensures refl c.if-on.true _ refl

pub returns : goal.returns
returns c = step_new _ _ _ _ _ _ _ _ _ c.from-at.ensures c.load.ensures refl c.if-on.false _ _ _ _ _ _ _ c.load-r.ensures refl c.own.ensures refl c.saturating_sub.ensures c.min.ensures c.number_of.ensures
