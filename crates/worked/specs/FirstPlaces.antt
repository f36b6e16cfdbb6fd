-- Each piece names its first place (document 02, request (vi)) worked by hand, as a list of cases: the last two numbers of a row are the variable
-- and the high bit where its piece first appears.
use Rattle.std.specs.Prelude.{List, [], ◌∷◌, ◌++◌}
use Rattle.worked.specs.Cases.{Case, Solved, Printed, row, piece, figures, line}

abbrev pub first_places : List Case
first_places =
    -- Two variables of 3, a zero in each: the fill of the second names its own place, though there is one before it.
    Solved
    (row 0 3 0 0 ++ row 0 3 0 0 ++ row 1 0 1 0 ++ row 3 0 1 1 ++ row 4 3 2 0 ++ row 3 1 2 2 ++ row 4 5 2 0)
    (figures 2 5 3 4 2 0)
    (piece 0 2 1 0 0 2 ++ piece 0 0 1 0 0 1 ++ piece 0 2 1 1 0 0 ++ piece 1 0 1 0 1 2 ++ piece 1 2 2 2 1 1)
    16
    ∷ Printed
    (line "kind a b c" ++ line "0 3 0 0" ++ line "0 3 0 0" ++ line "1 0 1 0" ++ line "3 0 1 1" ++ line "4 3 2 0" ++ line "3 1 2 2" ++ line "4 5 2 0")
    (line "outcome pieces fresh free ties row" ++ line "2 5 3 4 2 0" ++ line "variable kind width fresh home high"
    ++ line "0 2 1 0 0 2" ++ line "0 0 1 0 0 1" ++ line "0 2 1 1 0 0" ++ line "1 0 1 0 1 2" ++ line "1 2 2 2 1 1")
    -- A piece at home in the variable before, at another bit.
    ∷ Solved
    (row 0 4 0 0 ++ row 0 2 0 0 ++ row 3 0 3 2 ++ row 4 2 1 0)
    (figures 2 3 2 4 2 0)
    (piece 0 2 2 0 0 3 ++ piece 0 2 2 1 0 1 ++ piece 1 2 2 0 0 3)
    16
    -- A fill in front is not at home for fresh piece 0, though its fresh number is 0 too.
    ∷ Solved
    (row 0 3 0 0 ++ row 1 1 1 0 ++ row 3 0 2 2 ++ row 4 2 1 0 ++ row 3 0 1 1 ++ row 3 0 0 0 ++ row 4 4 5 0)
    (figures 2 3 1 1 2 0)
    (piece 0 1 1 0 0 2 ++ piece 0 2 1 0 0 1 ++ piece 0 2 1 0 0 1)
    2
    ∷ []
