-- `take_slices` meets its contract: the invariant is `SlicesOn`, of proofs/Pairs.antt. Assumes nothing.
use mathlib.Core.Path.{◌≡◌}
use mathlib.Core.Bool.{Bool}
use Prim.Native.Nat.{ℕ, ◌*◌, ◌≤◌, ◌<◌}
use lib.ListN.{length}
use Rattle.slices.specs.Along.{along}
use Rattle.slicer.specs.inner.Cutting.{slice_at}
use Rattle.run_pairs.specs.inner.Taken.{State}
use Rattle.run_equations.proofs.Pairs.{SlicesOn}
use Rattle.run_equations.proofs.take_slices.Given as goal

abbrev pub invariant-loop-i : goal.invariant-loop-i
invariant-loop-i l =
    (l.i-end ≤ 1024) × (l.ties ≤ l.i * 65535) × (l.cost ≤ l.i * 4294967296) × (length l.links ≡ length l.initial.links) × (length l.last ≡ length l.initial.last) × (length l.first ≡ length l.initial.first)
    × ((shut : ℕ → Bool) → State shut l.initial.links l.initial.last l.initial.first → l.n ≤ 1024
    → ((k : ℕ) → k < l.n → (j : ℕ) → j < (slice_at l.cuts k).width → along (slice_at l.cuts k).left j < length l.initial.links)
    → ((k : ℕ) → k < l.n → (j : ℕ) → j < (slice_at l.cuts k).width → along (slice_at l.cuts k).right j < length l.initial.links)
    → SlicesOn shut l.cuts l.i l.initial.links l.links l.last l.first l.ties)
