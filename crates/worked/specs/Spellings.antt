-- How numbers may be spelled in a sheet (document 02, request (i)), as a list of sheets with what is read of each: in decimal, or the letter h
-- and one to four of 0 to 9 and a to f.
use Rattle.std.specs.Prelude.{List, [], ◌∷◌, ◌++◌, ℕ}
use Prim.Native.String as text
use Rattle.worked.specs.Cases.{Case, Sheet, row, figures, line}

-- A sheet of one line of values, which is read as this row.
abbrev pub one_row : text.String → List ℕ → Case
one_row values numbers = Sheet (line "kind a b c" ++ line values) (figures 0 1 0 0 0 0) numbers

-- A sheet whose second line of values is this, and is refused.
abbrev pub wrong : text.String → Case
wrong values = Sheet (line "kind a b c" ++ line "0 8 0 0" ++ line values) (figures 22 0 0 0 0 1) []

abbrev pub spellings : List Case
spellings =
    -- The marker 1010 1100 1110 0001 of 16 bits.
    one_row "5 hace1 16 0" (row 5 44257 16 0)
    -- In every column, kind too; what the row says is not looked at.
    ∷ one_row "h5 h3 h2 h0" (row 5 3 2 0)
    ∷ one_row "h9 0 0 0" (row 9 0 0 0)
    ∷ one_row "h1234 h5678 h9abc hdef0" (row 4660 22136 39612 57072)
    -- In every order of the names.
    ∷ Sheet (line "c kind b a" ++ line "h0 h5 h10 hace1") (figures 0 1 0 0 0 0) (row 5 44257 16 0)
    -- Leading zeros behind h, up to four digits; the greatest number.
    ∷ one_row "h0 h0000 h00a h0f" (row 0 0 10 15)
    ∷ one_row "hffff 65535 h0001 h1" (row 65535 65535 1 1)
    -- No digit, or five; another letter, or a capital one; another sign for hexadecimal, or h behind.
    ∷ wrong "0 h 0 0"
    ∷ wrong "0 8 0 h"
    ∷ wrong "0 h 1 0 0"
    ∷ wrong "0 h12345 0 0"
    ∷ wrong "0 h00001 0 0"
    ∷ wrong "0 hg 0 0"
    ∷ wrong "0 hA 0 0"
    ∷ wrong "0 H1 0 0"
    ∷ wrong "0 0x1 0 0"
    ∷ wrong "0 1h 0 0"
    ∷ wrong "0 hh1 0 0"
    -- In decimal as before: no leading zeros, none above 65,535, none of a to f.
    ∷ wrong "0 08 0 0"
    ∷ wrong "0 65536 0 0"
    ∷ wrong "0 a 0 0"
    ∷ []
