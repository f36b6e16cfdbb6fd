-- Document 01's cases at every width at which their tables are accepted ("anything true at several widths is shown for a general width").
-- Each statement of the record begins with the widths that it is for; document 01's own case is the instance named beside it.
use Rattle.std.specs.Prelude.{◌≡◌, [], ◌++◌, ◌⊎◌, ℕ, ◌+◌, ◌-◌, ◌*◌, ◌^◌, ◌≤◌, ◌<◌}
use Rattle.worked.specs.Cases.{Case, Solved, Refused, Form, Holds, row, piece, times, figures}

-- 1. Variable of 2 m + 2, bits 2 m to 3 equal to 2 m - 2 to 1: m + 2 pieces, a two-bit piece m times between single bits,
-- fresh 3, free 4, ties 2 m - 2.
abbrev pub case1 : ℕ → Case
case1 m =
    Solved
    (row 0 (2 * m + 2) 0 0 ++ row 3 0 (2 * m) 3 ++ row 3 0 (2 * m - 2) 1 ++ row 4 1 2 0)
    (figures 2 (m + 2) 3 4 (2 * m - 2) 0)
    (piece 0 2 1 0 0 (2 * m + 1) ++ times m (piece 0 2 2 1 0 (2 * m)) ++ piece 0 2 1 2 0 0)
    16

-- 2. Variable of 2 m + 1, bits 2 m - 1 to 3 equal to 2 m - 3 to 1: 2 m + 1 pieces, widths all 1, fresh 4, free 4, ties 2 m - 3.
abbrev pub case2 : ℕ → Case
case2 m =
    Solved
    (row 0 (2 * m + 1) 0 0 ++ row 3 0 (2 * m - 1) 3 ++ row 3 0 (2 * m - 3) 1 ++ row 4 1 2 0)
    (figures 2 (2 * m + 1) 4 4 (2 * m - 3) 0)
    (piece 0 2 1 0 0 (2 * m) ++ times (m - 1) (piece 0 2 1 1 0 (2 * m - 1) ++ piece 0 2 1 2 0 (2 * m - 2))
    ++ piece 0 2 1 1 0 (2 * m - 1) ++ piece 0 2 1 3 0 0)
    16

-- 5. Words u = v, v = 0, u = 1 of w bits in rows 4, 5, 6 after u, v and both fills: never, row 6, ties 2 w.
abbrev pub case5 : ℕ → Case
case5 w =
    Solved
    (row 0 w 0 0 ++ row 0 w 0 0 ++ row 1 0 w 0 ++ row 1 1 w 0 ++ row 4 0 1 0 ++ row 4 1 2 0 ++ row 4 0 3 0)
    (figures 1 0 0 0 (2 * w) 6)
    []
    0

-- The cases at every width.
pub record AtEveryWidth : Type 0 where
  -- 1. Document 01 has m = 3.
  pub case_1 : (m : ℕ) → 2 ≤ m → 2 * m + 2 ≤ 1024 → Holds (case1 m)
  -- 2. Document 01 has m = 4.
  pub case_2 : (m : ℕ) → 2 ≤ m → 2 * m + 1 ≤ 1024 → Holds (case2 m)
  -- 3. Variable of w, equal to itself: always, free w. Document 01 has w = 4.
  pub case_3 : (w : ℕ) → 1 ≤ w → w ≤ 1024 → Holds (Solved (row 0 w 0 0 ++ row 4 0 0 0) (figures 0 0 0 w 0 0) [] (2 ^ w))
  -- 4. Fill 0 of w equal to fill 1 of w: never, row 2. Document 01 has w = 1.
  pub case_4 : (w : ℕ) → 1 ≤ w → w ≤ 1024 → Holds (Solved (row 1 0 w 0 ++ row 1 1 w 0 ++ row 4 0 1 0) (figures 1 0 0 0 0 2) [] 0)
  -- 5. Document 01 has w = 1.
  pub case_5 : (w : ℕ) → 1 ≤ w → w ≤ 1024 → Holds (case5 w)
  -- 7. A width of 1 to 1,024 accepted, any other refused 15: of a variable,
  pub variable : (w : ℕ) → 1 ≤ w → w ≤ 1024 → Holds (Solved (row 0 w 0 0) (figures 0 0 0 w 0 0) [] (2 ^ w))
  pub variable_refused : (w : ℕ) → (w ≡ 0) ⊎ (1024 < w) → Holds (Refused (row 0 w 0 0) (figures 15 0 0 0 0 0))
  -- of a fill,
  pub fill : (b w : ℕ) → b ≤ 1 → 1 ≤ w → w ≤ 1024 → Holds (Solved (row 1 b w 0) (figures 0 0 0 0 0 0) [] 1)
  pub fill_refused : (b w : ℕ) → (w ≡ 0) ⊎ (1024 < w) → Holds (Refused (row 1 b w 0) (figures 15 0 0 0 0 0))
  -- of a join.
  pub join : (v w : ℕ) → 1 ≤ v → 1 ≤ w → v + w ≤ 1024
      → Holds (Solved (row 0 v 0 0 ++ row 0 w 0 0 ++ row 2 0 1 0) (figures 0 0 0 (v + w) 0 0) [] (2 ^ (v + w)))
  pub join_refused : (v w : ℕ) → 1 ≤ v → v ≤ 1024 → 1 ≤ w → w ≤ 1024 → 1024 < v + w
      → Holds (Refused (row 0 v 0 0 ++ row 0 w 0 0 ++ row 2 0 1 0) (figures 15 0 0 0 0 2))
  -- The variable equal to a fill, and with each bit equal to the next.
  pub filled : (w : ℕ) → 1 ≤ w → w ≤ 1024
      → Holds (Solved (row 0 w 0 0 ++ row 1 0 w 0 ++ row 4 0 1 0) (figures 2 1 0 0 w 0) (piece 0 0 w 0 0 (w - 1)) 1)
  pub chained : (w : ℕ) → 2 ≤ w → w ≤ 1024
      → Holds (Solved
      (row 0 w 0 0 ++ row 3 0 (w - 1) 1 ++ row 3 0 (w - 2) 0 ++ row 4 1 2 0)
      (figures 2 w 1 1 (w - 1) 0)
      (times w (piece 0 2 1 0 0 (w - 1)))
      2)
  -- 8. Cut of a word of w at b to c: accepted, or refused 16. Document 01 has w = 8, b = 7 and 8, c = 0.
  pub cut : (w b c : ℕ) → w ≤ 1024 → c ≤ b → b < w → Holds (Solved (row 0 w 0 0 ++ row 3 0 b c) (figures 0 0 0 w 0 0) [] (2 ^ w))
  pub cut_refused : (w b c : ℕ) → 1 ≤ w → w ≤ 1024 → (w ≤ b) ⊎ (b < c) → Holds (Refused (row 0 w 0 0 ++ row 3 0 b c) (figures 16 0 0 0 0 1))
  -- 9. Variable of w, cut w - 1 to k joined with cut k - 1 to 0: a normal form of one piece. Document 01 has w = 8, k = 4.
  pub case_9 : (w k : ℕ) → w ≤ 1024 → 1 ≤ k → k < w
      → Holds (Form (row 0 w 0 0 ++ row 3 0 (w - 1) k ++ row 3 0 (k - 1) 0 ++ row 2 1 2 0) 3 (figures 0 1 0 w 0 0) (row 2 0 (w - 1) 0))
