-- `settle` meets its contract: the invariant is `Sweeping`. Assumes nothing.
use mathlib.Core.Path.{◌≡◌}
use mathlib.Core.Bool.{Bool}
use Prim.Native.Nat.{ℕ, ◌-◌, ◌≤◌}
use lib.ListN.{length}
use Rattle.run_pairs.specs.inner.Taken.{State}
use Rattle.run_sweep.specs.inner.Settled.{Sweeping}
use Rattle.run_sweep.proofs.settle.Given as goal

abbrev pub invariant-loop-i : goal.invariant-loop-i
invariant-loop-i l =
    (length l.links ≡ length l.initial.links) × (length l.last ≡ length l.initial.last) × (length l.first ≡ length l.initial.first)
    × ((shut : ℕ → Bool) → State shut l.initial.links l.initial.last l.initial.first → (2 ≤ l.i) × Sweeping shut l.initial.links l.links l.last l.first l.i)

abbrev pub decreases-loop-i : goal.decreases-loop-i
decreases-loop-i l = length l.initial.links - l.i
