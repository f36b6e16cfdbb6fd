-- `cut_sides` meets its contract: the invariant is `Cutting`, of proofs/Cutting.antt. Assumes nothing.
use mathlib.Core.Path.{◌≡◌}
use mathlib.Core.List.{List}
use Prim.Native.Nat.{ℕ, ◌-◌, ◌≤◌}
use lib.ListN.{length}
use Rattle.terms.specs.Table.{rows_of, row_at}
use Rattle.sides.specs.inner.Sides.{left_side, right_side}
use Rattle.slices.specs.Cut.{left_widths, right_widths}
use Rattle.slicer.specs.inner.Cutting.{SidesStand}
use Rattle.slicer.proofs.Cutting.{Cutting, Bordered}
use Rattle.slicer.proofs.cut_sides.Given as goal

abbrev pub invariant-loop-k : goal.invariant-loop-k
invariant-loop-k l =
    (l.n ≤ l.k) × (length l.cuts ≡ length l.initial.cuts)
    × ((table widths variables : List ℕ) (r : ℕ) → SidesStand table widths variables l.lows l.left l.right r l.width → 3072 ≤ length l.initial.cuts
    → Cutting (left_side (rows_of table) (row_at (rows_of table) r)) (right_side (rows_of table) (row_at (rows_of table) r)) l.lows l.left l.right l.width l.cuts l.n l.k l.a l.b
    × Bordered (left_widths (rows_of table) (row_at (rows_of table) r)) (right_widths (rows_of table) (row_at (rows_of table) r)) l.cuts l.n l.k)

abbrev pub decreases-loop-k : goal.decreases-loop-k
decreases-loop-k l = l.bits - l.k
