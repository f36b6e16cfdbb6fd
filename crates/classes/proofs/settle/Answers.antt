-- `settle` meets its contract: below i each link is its root, from i on nothing has changed. Assumes nothing.
use native.Mathlib.Omega.{arith}
use Rattle.classes.proofs.Roots.{stands_roots}
use Rattle.classes.proofs.Links.{swept_all}
use Rattle.classes.proofs.settle.Goals as goal

pub returns : goal.returns
returns c = λ low. swept_all _ _ c.loop-i.i c.loop-i.auto.links (omega (arith, c.loop-i-test.false, c.loop-i.auto.links)) (c.loop-i.invariant low) _ (stands_roots _ low)
