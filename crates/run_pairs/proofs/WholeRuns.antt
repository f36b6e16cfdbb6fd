-- Theorem `whole_runs`. Assumes nothing.
use mathlib.Core.Logic.{◌⊎◌, inl, inr, ◌≢◌}
use mathlib.Core.Bool.{Bool}
use mathlib.Core.List.{List}
use Prim.Native.Nat.{ℕ, ◌≤◌, ◌<◌}
use native.Mathlib.Omega.{arith}
use lib.ListN.{length}
use Rattle.run_pairs.specs.Steps.{RunEnds, RootsMeet}
use Rattle.run_pairs.specs.inner.Taken.{State, Left, taken_all, at_end, at_own, TakesRun}

-- For every step: at least one pair is taken at once and at most those that it is given; and fewer than these only where a run of the class of a or of b ends, or
-- where the higher roots would be among the lower ones that they are linked to. What the steps of a slice are given is all that is left of it (`InSteps` of run_slices).
pub whole_runs : (shut : ℕ → Bool) (a b count : ℕ) (h last first h' last' first' : List ℕ) (what len : ℕ) → State shut h last first → a < length h → b < length h → 1 ≤ count
    → TakesRun a b count h last first h' last' first' what len → what ≢ 2
    → (1 ≤ len) × (len ≤ count) × (len < count → RunEnds h last a b len ⊎ RootsMeet h a b len)
whole_runs shut a b count h last first h' last' first' what len S small-a small_b some takes ok =
    let T = takes shut S small-a small_b some in
    (T.some, T.most, λ less. go less (T.left ok))
  where
    go : len < count → Left h last a b count len → RunEnds h last a b len ⊎ RootsMeet h a b len
    go less (taken_all e) = absurd (omega arith)
    go less (at_end x two same end) = inl (x, two, same, end)
    go less (at_own e) = inr e
