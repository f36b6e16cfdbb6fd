-- `take_equations` meets its contract: between equations the invariant is `Between`, of crate taking. Assumes nothing.
use mathlib.Core.Path.{◌≡◌}
use mathlib.Core.Bool.{Bool}
use Prim.Native.Nat.{ℕ, ◌+◌, ◌-◌, ◌*◌, ◌≤◌, ◌<◌}
use lib.ListN.{length}
use Rattle.terms.specs.Table.{rows_of, row_at}
use Rattle.classes.specs.inner.Links.{roots_of}
use Rattle.taking.proofs.Taking.{Between}
use Rattle.run_pairs.specs.inner.Taken.{State}
use Rattle.run_equations.proofs.Asked.{Given}
use Rattle.run_equations.proofs.take_equations.Given as goal

abbrev pub invariant-loop-r : goal.invariant-loop-r
invariant-loop-r l =
    (l.ties ≤ 1024 * l.r) × (l.cost ≤ 65536 * l.r) × (l.pairs ≤ 1024 * l.r + 4096) × (l.ties ≤ 1000000) × (length l.left ≡ length l.initial.left) × (length l.right ≡ length l.initial.right) × (length l.cuts ≡ length l.initial.cuts)
    × (length l.links ≡ length l.initial.links) × (length l.last ≡ length l.initial.last) × (length l.first ≡ length l.initial.first) × (l.r < l.rows → (row_at (rows_of l.table) l.r).kind ≡ 4)
    × ((shut : ℕ → Bool) (g : Given shut l.table l.widths l.variables l.lows l.to l.initial.left l.initial.right l.initial.cuts l.initial.links l.initial.last l.initial.first)
    → Between (rows_of l.table) 0 l.to g.within (roots_of l.initial.links) l.links l.ties l.r × State shut l.links l.last l.first)

abbrev pub decreases-loop-r : goal.decreases-loop-r
decreases-loop-r l = l.rows - l.r
