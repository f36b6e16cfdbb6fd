-- `put_equal` meets its contract: the places of the words before v are covered and counted. Assumes nothing.
use mathlib.Core.Path.{◌≡◌}
use Prim.Native.Nat.{◌≤◌, ◌-◌, ◌*◌}
use lib.ListN.{length}
use Rattle.groups.specs.inner.Counts.{linked}
use Rattle.groups.specs.inner.Groups.{Covers, Counts}
use Rattle.groups.proofs.put_equal.Given as goal

abbrev pub invariant-loop-v : goal.invariant-loop-v
invariant-loop-v l = (l.count ≤ 16 * l.v - 1) × (length l.plan ≡ length l.initial.plan) × Covers l.links 0 (16 * l.v) l.initial.plan 0 l.plan l.count × Counts (linked l.links) 0 (16 * l.v) 0 l.count
