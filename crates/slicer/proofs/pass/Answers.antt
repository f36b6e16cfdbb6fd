-- `pass` meets its contract. Assumes nothing.
use mathlib.Core.Path.{refl}
use Rattle.slicer.proofs.Moving.{pass_next, pass_within}
use Rattle.slicer.proofs.pass.Goals as goal

pub returns-then-at-n : goal.returns-then-at-n
returns-then-at-n c = pass_next _ _ _ _ c.if-at-n.true _ refl _ c.begin.ensures

pub returns-else-at-n : goal.returns-else-at-n
returns-else-at-n c = pass_within _ _ _ _ c.if-at-n.false _ c.moved.ensures
