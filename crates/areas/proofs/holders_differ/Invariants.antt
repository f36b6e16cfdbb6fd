-- `holders_differ` meets its contract: the bits so far are none exactly if the numbers so far are the holders. Assumes nothing.
use mathlib.Core.Path.{◌≡◌}
use lib.Dec.{eqb}
use lib.ListN.{length, get_or}
use Rattle.laws.specs.Lists.{below}
use Rattle.areas.specs.inner.Areas.{held_by}
use Rattle.areas.proofs.holders_differ.Given as goal

abbrev pub invariant-loop-x : goal.invariant-loop-x
invariant-loop-x l = eqb l.bits 0 ≡ below (length l.yielded) (λ k. eqb (get_or (held_by l.links) k 0) (get_or l.work k 0))
