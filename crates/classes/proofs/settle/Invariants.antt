-- `settle` meets its contract: below i each link is its root, from i on nothing has changed. Assumes nothing.
use Rattle.classes.proofs.Links.{Swept}
use Rattle.classes.specs.inner.Links.{Low}
use Rattle.classes.proofs.settle.Given as goal

abbrev pub invariant-loop-i : goal.invariant-loop-i
invariant-loop-i l = Low l.initial.links → Swept l.initial.links l.links l.i
