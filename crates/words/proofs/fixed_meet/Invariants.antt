-- `fixed_meet` meets its contract: the rows before have passed. Assumes nothing.
use mathlib.Core.Path.{◌≡◌}
use mathlib.Core.Bool.{true}
use Rattle.laws.specs.Lists.{below}
use Rattle.words.specs.inner.Plan.{fixed_test}
use Rattle.words.proofs.fixed_meet.Given as goal

abbrev pub invariant-loop-j : goal.invariant-loop-j
invariant-loop-j l = below l.j (fixed_test l.plan l.window) ≡ true
