-- `take_equations` meets its contract: the equations outside, their bit pairs inside, and a label that leaves both. Within an equation the
-- readers stand at bit k of the two forms, and nothing is written to these. Assumes nothing.
use mathlib.Core.Path.{◌≡◌}
use Prim.Native.Nat.{◌≤◌, ◌-◌, ◌+◌, ◌*◌}
use lib.ListN.{length}
use Rattle.terms.specs.Table.{rows_of, row_at}
use Rattle.classes.specs.inner.Links.{roots_of}
use Rattle.sides.specs.inner.Reading.{Stands}
use Rattle.sides.specs.inner.Sides.{SidesRead, left_side, right_side}
use Rattle.taking.specs.inner.Equations.{Holding}
use Rattle.taking.proofs.Asked.{Given, Room}
use Rattle.taking.proofs.Taking.{Taking, Between}
use Rattle.taking.proofs.Forms.{Standing}
use Rattle.taking.proofs.take_equations.Given as goal

abbrev pub invariant-loop-k : goal.invariant-loop-k
invariant-loop-k l =
    (l.k ≤ l.width) × (l.found ≤ l.k) × (length l.links ≡ length l.initial.links)
    × (SidesRead (rows_of l.table) l.r l.lows l.left l.right l.width → Stands l.lows l.left l.k l.a × Stands l.lows l.right l.k l.b)
    × (Holding (rows_of l.table) l.initial.links → SidesRead (rows_of l.table) l.r l.lows l.left l.right l.width
    → Taking (left_side (rows_of l.table) (row_at (rows_of l.table) l.r)) (right_side (rows_of l.table) (row_at (rows_of l.table) l.r)) (roots_of l.initial.links) l.links l.k l.found)

abbrev pub decreases-loop-k : goal.decreases-loop-k
decreases-loop-k l = l.width - l.k

abbrev pub invariant-solve : goal.invariant-solve
invariant-solve l =
    (l.ties ≤ 1024 * l.r + 1024) × (l.ties ≤ 1000000) × (length l.left ≡ length l.initial.left) × (length l.right ≡ length l.initial.right) × (length l.links ≡ length l.initial.links)
    × ((g : Given l.table l.widths l.variables l.lows l.from l.to l.initial.left l.initial.right l.initial.links) → Between (rows_of l.table) l.from l.to g.within (roots_of l.initial.links) l.links l.ties l.r)
    × (Room l.table l.widths l.variables l.from l.to l.initial.left l.initial.right → Standing (rows_of l.table) l.from l.to l.initial.left l.left l.initial.right l.right l.r)

abbrev pub decreases-solve : goal.decreases-solve
decreases-solve l = l.rows - l.r
