-- Revised equations (document 02, request (vii)) worked by hand, as a list of cases: of the equations with one line number above 0 the last
-- counts, where it stands.
use Rattle.std.specs.Prelude.{List, [], ◌∷◌, ◌++◌, ℕ}
use Rattle.worked.specs.Cases.{Case, Solved, Refused, row, piece, figures}

-- A variable of 2, zeros and ones.
abbrev word : List ℕ
word = row 0 2 0 0 ++ row 1 0 2 0 ++ row 1 1 2 0

abbrev pub revised_lines : List Case
revised_lines =
    -- Ones: the second took the first's place. Another line takes no place: never, row 4.
    Solved (word ++ row 4 0 1 7 ++ row 4 0 2 7) (figures 2 1 0 0 2 0) (piece 0 1 2 0 0 1) 1
    ∷ Solved (word ++ row 4 0 1 7 ++ row 4 0 2 8) (figures 1 0 0 0 2 4) [] 0
    -- Never at row 5, where the last of line 7 stands, and not at 4.
    ∷ Solved (word ++ row 4 0 1 7 ++ row 4 0 2 0 ++ row 4 0 1 7) (figures 1 0 0 0 2 5) [] 0
    -- The line says nothing in the end.
    ∷ Solved (word ++ row 4 0 1 7 ++ row 4 0 2 0 ++ row 4 0 0 7) (figures 2 1 0 0 2 0) (piece 0 1 2 0 0 1) 1
    -- Line 0 is none: both count.
    ∷ Solved (word ++ row 4 0 1 0 ++ row 4 0 2 0) (figures 1 0 0 0 2 4) [] 0
    -- A cut whose low bound is the line's number takes no place.
    ∷ Solved (word ++ row 4 0 1 1 ++ row 3 0 1 1) (figures 2 1 0 0 2 0) (piece 0 0 2 0 0 1) 1
    -- What does not count is checked too; and column c of a value is unused.
    ∷ Refused (word ++ row 4 0 9 7 ++ row 4 0 2 7) (figures 14 0 0 0 0 3)
    ∷ Refused (row 5 4 2 1) (figures 13 0 0 0 0 0)
    ∷ []
