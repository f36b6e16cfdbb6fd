-- The holders that links give: links have for each source its representative.
use Rattle.std.specs.Prelude.{Bool, List, map, ℕ, min, eqb, length, get_or, drop}
use Rattle.laws.specs.Lists.{below}
use Rattle.jobs.specs.Prefix.{host_number}

-- Each place's representative, as a host reads it.
unfoldable pub held_by : List ℕ → List ℕ
held_by links = map host_number (drop 2 links)

-- Whether two lists have the same numbers, as far as both go.
unfoldable pub agree : List ℕ → List ℕ → Bool
agree xs ys = below (min (length xs) (length ys)) (λ i. eqb (get_or xs i 0) (get_or ys i 0))

-- Whether each number is 0.
unfoldable pub all_zero : List ℕ → Bool
all_zero xs = below (length xs) (λ i. eqb (get_or xs i 0) 0)
