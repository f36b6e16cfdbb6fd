-- Each piece names its first place (document 02, request (vi)) at every width at which the tables are accepted: the last two numbers of a row
-- are the variable and the high bit where its piece first appears. The cases worked by hand in FirstPlaces.antt are the instances named.
use Rattle.std.specs.Prelude.{◌++◌, ℕ, ◌+◌, ◌-◌, ◌^◌, ◌≤◌}
use Rattle.worked.specs.Cases.{Case, Solved, Holds, row, piece, figures}

-- Two variables, of u + g + v and g + x bits, with g zeros in each: the fill of the second names its own place, though there is one before it.
abbrev pub two_fills : ℕ → ℕ → ℕ → ℕ → Case
two_fills u g v x =
    Solved
    (row 0 (u + g + v) 0 0 ++ row 0 (g + x) 0 0 ++ row 1 0 g 0 ++ row 3 0 (g + v - 1) v ++ row 4 3 2 0 ++ row 3 1 (g + x - 1) x ++ row 4 5 2 0)
    (figures 2 5 3 (u + v + x) (g + g) 0)
    (piece 0 2 u 0 0 (u + g + v - 1) ++ piece 0 0 g 0 0 (g + v - 1) ++ piece 0 2 v 1 0 (v - 1)
    ++ piece 1 0 g 0 1 (g + x - 1) ++ piece 1 2 x 2 1 (x - 1))
    (2 ^ (u + v + x))

-- A variable of w bits equal to the top w bits of one of w + v before it: its piece is at home there, at another bit.
abbrev pub home_before : ℕ → ℕ → Case
home_before w v =
    Solved
    (row 0 (w + v) 0 0 ++ row 0 w 0 0 ++ row 3 0 (w + v - 1) v ++ row 4 2 1 0)
    (figures 2 3 2 (w + v) w 0)
    (piece 0 2 w 0 0 (w + v - 1) ++ piece 0 2 v 1 0 (v - 1) ++ piece 1 2 w 0 0 (w + v - 1))
    (2 ^ (w + v))

-- Ones of g in front and a piece of w twice, all in one variable: the fill is not at home for fresh piece 0, though its fresh number is 0 too.
abbrev pub fill_before : ℕ → ℕ → Case
fill_before g w =
    Solved
    (row 0 (g + w + w) 0 0 ++ row 1 1 g 0 ++ row 3 0 (g + w + w - 1) (w + w) ++ row 4 2 1 0 ++ row 3 0 (w + w - 1) w ++ row 3 0 (w - 1) 0 ++ row 4 4 5 0)
    (figures 2 3 1 w (g + w) 0)
    (piece 0 1 g 0 0 (g + w + w - 1) ++ piece 0 2 w 0 0 (w + w - 1) ++ piece 0 2 w 0 0 (w + w - 1))
    (2 ^ w)

-- The cases at every width.
pub record FirstPlacesAtEveryWidth : Type 0 where
  -- By hand: u, g and v are 1, and x is 2.
  pub two-fills : (u g v x : ℕ) → 1 ≤ u → 1 ≤ g → 1 ≤ v → 1 ≤ x → u + g + v ≤ 1024 → g + x ≤ 1024 → Holds (two_fills u g v x)
  -- Both are 2.
  pub home-before : (w v : ℕ) → 1 ≤ w → 1 ≤ v → w + v ≤ 1024 → Holds (home_before w v)
  -- Both are 1.
  pub fill-before : (g w : ℕ) → 1 ≤ g → 1 ≤ w → g + w + w ≤ 1024 → Holds (fill_before g w)
