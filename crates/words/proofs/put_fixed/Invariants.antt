-- `put_fixed` meets its contract: the rows of the variables before are there. Assumes nothing.
use mathlib.Core.Path.{◌≡◌}
use Prim.Native.Nat.{◌≤◌}
use lib.ListN.{length}
use Rattle.words.specs.inner.Plan.{FixedPut}
use Rattle.words.proofs.put_fixed.Given as goal

abbrev pub invariant-loop-v : goal.invariant-loop-v
invariant-loop-v l =
    (l.n ≤ l.v) × (length l.plan ≡ length l.initial.plan) × (260 ≤ length l.initial.plan → FixedPut l.links l.v l.initial.plan l.plan l.n)
