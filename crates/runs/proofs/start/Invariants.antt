-- `start` meets its contract: the invariant is `Starting`, of proofs/Starting.antt. Assumes nothing.
use mathlib.Core.Path.{◌≡◌}
use mathlib.Core.List.{List}
use Prim.Native.Nat.{ℕ, ◌+◌, ◌-◌, ◌≤◌, max}
use lib.ListN.{length, get_or, take}
use Rattle.slices.specs.Borders.{total, Some}
use Rattle.runs.proofs.Starting.{Starting}
use Rattle.runs.proofs.start.Given as goal

abbrev pub invariant-loop-x : goal.invariant-loop-x
invariant-loop-x l =
    (l.v + 2 ≤ l.x) × (l.x ≤ max l.n 2) × (length l.last ≡ length l.initial.last) × (length l.first ≡ length l.initial.first)
    × ((ws : List ℕ) → Some ws → l.n ≡ total ws + 2 → l.n ≤ 65535 → l.n ≤ length l.initial.last → l.n ≤ length l.initial.first → ((u : ℕ) → u ≤ length ws → get_or l.sources u 0 ≡ total (take u ws) + 1)
    → Starting ws l.n l.last l.first l.v l.x)

abbrev pub decreases-loop-x : goal.decreases-loop-x
decreases-loop-x l = l.n - l.x
