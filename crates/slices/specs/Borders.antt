-- Borders of a word that is cut into pieces of these widths.
use Rattle.std.specs.Prelude.{Bool, false, ◌&&◌, ◌||◌, List, [], ◌∷◌, ℕ, ◌+◌, ◌-◌, ◌≤◌, eqb, ltb}

-- Whether one of the pieces ends behind the first k bits, counted from the high end; the end of the last one counts.
unfoldable pub ends_at : List ℕ → ℕ → Bool
ends_at [] k = false
ends_at (w ∷ ws) k = eqb k w || (ltb w k && ends_at ws (k - w))

-- How many bits the pieces have together.
unfoldable pub total : List ℕ → ℕ
total [] = 0
total (w ∷ ws) = w + total ws

-- Every piece has a bit at least.
pub data Some : List ℕ → Type 0 where
  none : Some []
  some : {w : ℕ} {ws : List ℕ} → 1 ≤ w → Some ws → Some (w ∷ ws)
