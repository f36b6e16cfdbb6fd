-- `equal_meet` meets its contract: the rows before have passed. Assumes nothing.
use mathlib.Core.Path.{◌≡◌}
use mathlib.Core.Bool.{true}
use Rattle.laws.specs.Lists.{below}
use Rattle.groups.specs.inner.Places.{equal_test}
use Rattle.words.proofs.equal_meet.Given as goal

abbrev pub invariant-loop-g : goal.invariant-loop-g
invariant-loop-g l = below l.g (equal_test l.plan l.window) ≡ true
