-- What the inner functions of the call promise.
use Rattle.std.specs.Prelude.{Bool, ◌&&◌, List, ℕ, leb, length, take}
use Rattle.words.specs.inner.Plan.{meets_plan}

-- Whether the first k words of what is left of a run meet a plan.
unfoldable pub meets_ahead : List ℕ → ℕ → List ℕ → Bool
meets_ahead plan k rest = leb k (length rest) && meets_plan plan (take k rest)
