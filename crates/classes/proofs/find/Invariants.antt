-- `find` meets its contract: x is a source of the class of s, its link is p, and the links stand for the same classes. Assumes nothing.
use mathlib.Core.Path.{◌≡◌}
use Prim.Native.Nat.{◌<◌}
use lib.ListN.{length, get_or}
use Rattle.classes.proofs.Links.{Finding}
use Rattle.classes.specs.inner.Links.{Low}
use Rattle.classes.proofs.find.Given as goal

abbrev pub invariant-loop-p : goal.invariant-loop-p
invariant-loop-p l = (l.x < length l.links) × (l.p ≡ get_or l.links l.x 0) × (Low l.initial.links → l.s < length l.initial.links → Finding l.initial.links l.links l.s l.x l.p)

abbrev pub decreases-loop-p : goal.decreases-loop-p
decreases-loop-p l = l.x
