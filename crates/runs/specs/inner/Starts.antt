-- What making the first runs promises.
use Rattle.std.specs.Prelude.{◌≡◌, List, ℕ, ◌+◌, ◌-◌, ◌≤◌, length, get_or, take}
use Rattle.laws.specs.Lists.{count_up}
use Rattle.answers.specs.Answer.{begins}
use Rattle.slices.specs.Borders.{total, Some}
use Rattle.runs.specs.inner.Runs.{Runs}

-- Each variable is one run, where n sources link to themselves, the variables have the widths ws, and `sources` has the source before each
-- variable.
abbrev pub StartsRuns : List ℕ → ℕ → List ℕ → List ℕ → List ℕ → List ℕ → Type 0
StartsRuns sources n last first last' first' =
    (ws : List ℕ) → Some ws → n ≡ total ws + 2 → n ≤ 65535 → n ≤ length last → n ≤ length first → ((v : ℕ) → v ≤ length ws → get_or sources v 0 ≡ total (take v ws) + 1)
    → Runs (λ x. begins ws (x - 2)) n (count_up 0 n) last' first'
