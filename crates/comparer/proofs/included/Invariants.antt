-- `included` meets its contract: the sources so far agree. Assumes nothing.
use mathlib.Core.Path.{◌≡◌}
use mathlib.Core.Bool.{true}
use Rattle.laws.specs.Lists.{below}
use Rattle.comparer.proofs.Comparing.{at}
use Rattle.comparer.proofs.included.Given as goal

abbrev pub invariant-loop-s : goal.invariant-loop-s
invariant-loop-s l = below l.s (at l.h l.g) ≡ true
