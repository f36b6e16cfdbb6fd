-- `put_word` meets its contract: the places before i are covered and counted. Assumes nothing.
use mathlib.Core.Path.{◌≡◌}
use Prim.Native.Nat.{◌≤◌, ◌-◌, ◌*◌}
use lib.ListN.{length}
use Rattle.groups.specs.inner.Counts.{linked}
use Rattle.groups.specs.inner.Groups.{Covers, WordRows, Counts}
use Rattle.groups.proofs.put_word.Given as goal

abbrev pub invariant-loop-i : goal.invariant-loop-i
invariant-loop-i l =
    (l.n ≤ l.i - 1)
    × (length l.plan ≡ length l.initial.plan)
    × Covers l.links (16 * l.v) l.i l.initial.plan l.count l.plan l.n
    × WordRows (linked l.links) l.v l.i l.plan l.count l.n
    × Counts (linked l.links) (16 * l.v) l.i l.count l.n
