-- Short sides against long sides (document 02, request (iii)) at every width at which their tables are accepted ("anything true at several
-- widths is shown for a general width"): the shorter side has w bits, the longer one g more, and either may stand left. The cases of variables,
-- cuts and fills that ShortSides.antt works by hand are instances.
use Rattle.std.specs.Prelude.{List, [], ◌++◌, ℕ, ◌+◌, ◌-◌, ◌^◌, ◌≤◌}
use Rattle.worked.specs.Cases.{Case, Solved, Holds, row, piece, figures}

-- A case holds with the equation of rows a and b, whichever is its left side. The equation stands where the case has it.
abbrev pub EitherSideLeft : (List ℕ → Case) → ℕ → ℕ → Type 0
EitherSideLeft case a b = Holds (case (row 4 a b 0)) × Holds (case (row 4 b a 0))

-- A variable of w + g against one of w behind it: its top bits are 0, which is g ties, and its others are those of the second, w ties.
abbrev pub long_first : ℕ → ℕ → List ℕ → Case
long_first w g equation =
    Solved
    (row 0 (w + g) 0 0 ++ row 0 w 0 0 ++ equation)
    (figures 2 3 1 w (w + g) 0)
    (piece 0 0 g 0 0 (w + g - 1) ++ piece 0 2 w 0 0 (w - 1) ++ piece 1 2 w 0 0 (w - 1))
    (2 ^ w)

-- The short variable first: the piece is at home there, and the zeros stand in the second.
abbrev pub short_first : ℕ → ℕ → List ℕ → Case
short_first w g equation =
    Solved
    (row 0 w 0 0 ++ row 0 (w + g) 0 0 ++ equation)
    (figures 2 3 1 w (w + g) 0)
    (piece 0 2 w 0 0 (w - 1) ++ piece 1 0 g 0 1 (w + g - 1) ++ piece 1 2 w 0 0 (w - 1))
    (2 ^ w)

-- A variable of w + g against its own bits w - 1 to 0: g ties.
abbrev pub own_bits : ℕ → ℕ → List ℕ → Case
own_bits w g equation =
    Solved
    (row 0 (w + g) 0 0 ++ row 3 0 (w - 1) 0 ++ equation)
    (figures 2 2 1 w g 0)
    (piece 0 0 g 0 0 (w + g - 1) ++ piece 0 2 w 0 0 (w - 1))
    (2 ^ w)

-- The same where the top bits are 0 by an earlier equation: no tie more.
abbrev pub own_bits_again : ℕ → ℕ → List ℕ → Case
own_bits_again w g equation =
    Solved
    (row 0 (w + g) 0 0 ++ row 3 0 (w + g - 1) w ++ row 1 0 g 0 ++ row 4 1 2 0 ++ row 3 0 (w - 1) 0 ++ equation)
    (figures 2 2 1 w g 0)
    (piece 0 0 g 0 0 (w + g - 1) ++ piece 0 2 w 0 0 (w - 1))
    (2 ^ w)

-- A variable of w + g against ones of w: zeros and ones.
abbrev pub short_ones : ℕ → ℕ → List ℕ → Case
short_ones w g equation =
    Solved
    (row 0 (w + g) 0 0 ++ row 1 1 w 0 ++ equation)
    (figures 2 2 0 0 (w + g) 0)
    (piece 0 0 g 0 0 (w + g - 1) ++ piece 0 1 w 0 0 (w - 1))
    1

-- Variables of u and v bits joined, against a variable of u + v + g: it is zeros and the two pieces, each at home in the variable joined.
abbrev pub short_join : ℕ → ℕ → ℕ → List ℕ → Case
short_join u v g equation =
    Solved
    (row 0 u 0 0 ++ row 0 v 0 0 ++ row 0 (u + v + g) 0 0 ++ row 2 0 1 0 ++ equation)
    (figures 2 5 2 (u + v) (u + v + g) 0)
    (piece 0 2 u 0 0 (u - 1) ++ piece 1 2 v 1 1 (v - 1) ++ piece 2 0 g 0 2 (u + v + g - 1) ++ piece 2 2 u 0 0 (u - 1) ++ piece 2 2 v 1 1 (v - 1))
    (2 ^ (u + v))

-- A variable of w against ones of w + g: never at row 2, without a tie.
abbrev pub long_ones : ℕ → ℕ → List ℕ → Case
long_ones w g equation = Solved (row 0 w 0 0 ++ row 1 1 (w + g) 0 ++ equation) (figures 1 0 0 0 0 2) [] 0

-- Variables of w bits equal to each other, and the first against ones of w + g: never at row 4, with the w ties of the equation before.
abbrev pub long_ones_later : ℕ → ℕ → List ℕ → Case
long_ones_later w g equation =
    Solved (row 0 w 0 0 ++ row 0 w 0 0 ++ row 1 1 (w + g) 0 ++ row 4 0 1 0 ++ equation) (figures 1 0 0 0 w 4) [] 0

-- Fill 0 of w + g against fill 0 of w: always. Fill 1 against fill 1: never.
abbrev pub zero_fills : ℕ → ℕ → List ℕ → Case
zero_fills w g equation = Solved (row 1 0 (w + g) 0 ++ row 1 0 w 0 ++ equation) (figures 0 0 0 0 0 0) [] 1

abbrev pub one_fills : ℕ → ℕ → List ℕ → Case
one_fills w g equation = Solved (row 1 1 (w + g) 0 ++ row 1 1 w 0 ++ equation) (figures 1 0 0 0 0 2) [] 0

-- The cases at every width.
pub record ShortSidesAtEveryWidth : Type 0 where
  pub long-first : (w g : ℕ) → 1 ≤ w → 1 ≤ g → w + g ≤ 1024 → EitherSideLeft (long_first w g) 0 1
  pub short-first : (w g : ℕ) → 1 ≤ w → 1 ≤ g → w + g ≤ 1024 → EitherSideLeft (short_first w g) 0 1
  pub own-bits : (w g : ℕ) → 1 ≤ w → 1 ≤ g → w + g ≤ 1024 → EitherSideLeft (own_bits w g) 0 1
  pub own-bits-again : (w g : ℕ) → 1 ≤ w → 1 ≤ g → w + g ≤ 1024 → EitherSideLeft (own_bits_again w g) 0 4
  pub short-ones : (w g : ℕ) → 1 ≤ w → 1 ≤ g → w + g ≤ 1024 → EitherSideLeft (short_ones w g) 0 1
  pub short-join : (u v g : ℕ) → 1 ≤ u → 1 ≤ v → 1 ≤ g → u + v + g ≤ 1024 → EitherSideLeft (short_join u v g) 3 2
  pub long-ones : (w g : ℕ) → 1 ≤ w → 1 ≤ g → w + g ≤ 1024 → EitherSideLeft (long_ones w g) 0 1
  pub long-ones-later : (w g : ℕ) → 1 ≤ w → 1 ≤ g → w + g ≤ 1024 → EitherSideLeft (long_ones_later w g) 0 2
  pub zero-fills : (w g : ℕ) → 1 ≤ w → w + g ≤ 1024 → EitherSideLeft (zero_fills w g) 0 1
  pub one-fills : (w g : ℕ) → 1 ≤ w → 1 ≤ g → w + g ≤ 1024 → EitherSideLeft (one_fills w g) 0 1
