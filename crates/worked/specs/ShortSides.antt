-- Short sides against long sides (document 02, request (iii)) worked by hand, as a list of cases: the narrower side is filled with zeros at its
-- high end, and the pairs and ties count those zeros.
use Rattle.std.specs.Prelude.{List, [], ◌∷◌, ◌++◌}
use Rattle.worked.specs.Cases.{Case, Solved, Refused, Printed, row, piece, figures, line}

abbrev pub short_sides : List Case
short_sides =
    -- A variable of 4 against one of 2: its top bits are 0, which is two ties, and its others are those of the second.
    Solved (row 0 4 0 0 ++ row 0 2 0 0 ++ row 4 0 1 0) (figures 2 3 1 2 4 0) (piece 0 0 2 0 0 3 ++ piece 0 2 2 0 0 1 ++ piece 1 2 2 0 0 1) 4
    -- The other side first.
    ∷ Solved (row 0 4 0 0 ++ row 0 2 0 0 ++ row 4 1 0 0) (figures 2 3 1 2 4 0) (piece 0 0 2 0 0 3 ++ piece 0 2 2 0 0 1 ++ piece 1 2 2 0 0 1) 4
    ∷ Printed
    (line "kind a b c" ++ line "0 4 0 0" ++ line "0 2 0 0" ++ line "4 0 1 0")
    (line "outcome pieces fresh free ties row" ++ line "2 3 1 2 4 0"
    ++ line "variable kind width fresh home high" ++ line "0 0 2 0 0 3" ++ line "0 2 2 0 0 1" ++ line "1 2 2 0 0 1")
    -- A variable of 3 against its own bits 1 to 0: one tie.
    ∷ Solved (row 0 3 0 0 ++ row 3 0 1 0 ++ row 4 0 1 0) (figures 2 2 1 2 1 0) (piece 0 0 1 0 0 2 ++ piece 0 2 2 0 0 1) 4
    -- The same where the top bit is 0 by an earlier equation: no tie.
    ∷ Solved
    (row 0 3 0 0 ++ row 3 0 2 2 ++ row 1 0 1 0 ++ row 4 1 2 0 ++ row 3 0 1 0 ++ row 4 0 4 0)
    (figures 2 2 1 2 1 0)
    (piece 0 0 1 0 0 2 ++ piece 0 2 2 0 0 1)
    4
    -- Fill 0 of 4 against fill 0 of 1: always. Fill 1 of 4 against fill 1 of 1: never.
    ∷ Solved (row 1 0 4 0 ++ row 1 0 1 0 ++ row 4 0 1 0) (figures 0 0 0 0 0 0) [] 1
    ∷ Solved (row 1 1 4 0 ++ row 1 1 1 0 ++ row 4 0 1 0) (figures 1 0 0 0 0 2) [] 0
    -- The number 6 in 8 bits against a variable of 3: it is 110.
    ∷ Solved (row 5 6 8 0 ++ row 0 3 0 0 ++ row 4 0 1 0) (figures 2 2 0 0 3 0) (piece 0 1 2 0 0 2 ++ piece 0 0 1 0 0 0) 1
    -- A variable of 2 against fill 1 of 3: never, row 2.
    ∷ Solved (row 0 2 0 0 ++ row 1 1 3 0 ++ row 4 0 1 0) (figures 1 0 0 0 0 2) [] 0
    -- Never by a top bit, row 4, with the ties of the equation before.
    ∷ Solved (row 0 2 0 0 ++ row 0 2 0 0 ++ row 1 1 3 0 ++ row 4 0 1 0 ++ row 4 0 2 0) (figures 1 0 0 0 2 4) [] 0
    -- Sides of unequal width hide no fault of a later row.
    ∷ Refused (row 0 4 0 0 ++ row 0 2 0 0 ++ row 4 0 1 0 ++ row 6 0 0 0) (figures 12 0 0 0 0 3)
    ∷ []
