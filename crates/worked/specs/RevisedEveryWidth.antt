-- Revised equations (document 02, request (vii)) at every width and with every line number: of the equations with one line number above 0 the
-- last counts, where it stands. The cases worked by hand in Revised.antt are instances, with w = 2, lines 7 and 8, and row 9.
use Rattle.std.specs.Prelude.{◌≡◌, List, [], ◌++◌, ◌⊎◌, ◌≢◌, ℕ, ◌-◌, ◌≤◌, ◌<◌}
use Rattle.worked.specs.Cases.{Solved, Refused, Holds, row, piece, figures}

-- A variable of w bits, zeros and ones.
abbrev pub zeros_and_ones : ℕ → List ℕ
zeros_and_ones w = row 0 w 0 0 ++ row 1 0 w 0 ++ row 1 1 w 0

-- With these equations behind them the variable is w times the bit b.
abbrev pub AllBits : ℕ → List ℕ → ℕ → Type 0
AllBits w equations b = Holds (Solved (zeros_and_ones w ++ equations) (figures 2 1 0 0 w 0) (piece 0 b w 0 0 (w - 1)) 1)

-- With these no pattern is left at row r, and the equations before it have w ties.
abbrev pub NeverAtRow : ℕ → List ℕ → ℕ → Type 0
NeverAtRow w equations r = Holds (Solved (zeros_and_ones w ++ equations) (figures 1 0 0 0 w r) [] 0)

-- The cases at every width.
pub record RevisedAtEveryWidth : Type 0 where
  -- Zeros in line n, revised to ones; ones in line n, revised to zeros.
  pub to_ones : (w n : ℕ) → 1 ≤ w → w ≤ 1024 → 1 ≤ n → AllBits w (row 4 0 1 n ++ row 4 0 2 n) 1
  pub to_zeros : (w n : ℕ) → 1 ≤ w → w ≤ 1024 → 1 ≤ n → AllBits w (row 4 0 2 n ++ row 4 0 1 n) 0
  -- Another line takes no place, and line 0 is none: never, row 4.
  pub both_count : (w n m : ℕ) → 1 ≤ w → w ≤ 1024 → (n ≡ 0) ⊎ (n ≢ m) → NeverAtRow w (row 4 0 1 n ++ row 4 0 2 m) 4
  -- Never at row 5, where the last of line n stands, and not at 4.
  pub where_it_stands : (w n m : ℕ) → 1 ≤ w → w ≤ 1024 → 1 ≤ n → n ≢ m → NeverAtRow w (row 4 0 1 n ++ row 4 0 2 m ++ row 4 0 1 n) 5
  -- The line says nothing in the end.
  pub says_nothing : (w n m : ℕ) → 1 ≤ w → w ≤ 1024 → 1 ≤ n → n ≢ m → AllBits w (row 4 0 1 n ++ row 4 0 2 m ++ row 4 0 0 n) 1
  -- A cut whose low bound is the line's number takes no place.
  pub cut_no_line : (w b c : ℕ) → w ≤ 1024 → c ≤ b → b < w → AllBits w (row 4 0 1 c ++ row 3 0 b c) 0
  -- What does not count is checked too: a row that is not earlier is refused 14.
  pub checked_too : (w n r : ℕ) → 1 ≤ w → w ≤ 1024 → 3 ≤ r
      → Holds (Refused (zeros_and_ones w ++ row 4 0 r n ++ row 4 0 2 n) (figures 14 0 0 0 0 3))
  -- Column c of a value is unused.
  pub value_unlined : (a b c : ℕ) → 1 ≤ c → Holds (Refused (row 5 a b c) (figures 13 0 0 0 0 0))
