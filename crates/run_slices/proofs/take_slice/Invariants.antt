-- `take_slice` meets its contract: the invariant is `Going`, of proofs/Slicing.antt. Assumes nothing.
use mathlib.Core.Path.{◌≡◌}
use mathlib.Core.Bool.{Bool}
use Prim.Native.Nat.{ℕ, ◌+◌, ◌-◌, ◌*◌, ◌≤◌, ◌<◌}
use lib.ListN.{length}
use Rattle.slices.specs.Along.{along}
use Rattle.run_pairs.specs.inner.Taken.{State}
use Rattle.run_slices.proofs.Slicing.{Going}
use Rattle.run_slices.proofs.take_slice.Given as goal

abbrev pub invariant-loop-len : goal.invariant-loop-len
invariant-loop-len l =
    (length l.links ≡ length l.initial.links) × (length l.last ≡ length l.initial.last) × (length l.first ≡ length l.initial.first) × (l.ties + l.len ≤ l.width) × (l.cost ≤ (l.width - l.len) * 65536)
    × ((shut : ℕ → Bool) → State shut l.initial.links l.initial.last l.initial.first → ((k : ℕ) → k < l.width → along l.left k < length l.initial.links) → ((k : ℕ) → k < l.width → along l.right k < length l.initial.links)
    → Going shut l.left l.right l.width l.initial.links l.initial.last l.initial.first l.links l.last l.first l.a l.b l.len l.ties)

abbrev pub decreases-loop-len : goal.decreases-loop-len
decreases-loop-len l = l.len
