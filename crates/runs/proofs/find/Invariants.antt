-- `find` meets its contract: the invariant is `Searching`, of proofs/Finding.antt. Assumes nothing.
use mathlib.Core.Bool.{Bool}
use mathlib.Core.List.{List}
use Prim.Native.Nat.{ℕ, ◌≤◌, ◌<◌}
use lib.ListN.{length}
use Rattle.classes.specs.inner.Links.{Low}
use Rattle.runs.specs.inner.Runs.{Runs}
use Rattle.runs.proofs.Finding.{Searching}
use Rattle.runs.proofs.find.Given as goal

abbrev pub invariant-loop-x : goal.invariant-loop-x
invariant-loop-x l =
    (shut : ℕ → Bool) (first : List ℕ) → Runs shut (length l.links) l.links l.last first → Low l.links → length l.links ≤ 65535 → l.s < length l.links → 1 ≤ l.count → Searching l.links l.last l.s l.count l.x l.len

abbrev pub decreases-loop-x : goal.decreases-loop-x
decreases-loop-x l = l.x
