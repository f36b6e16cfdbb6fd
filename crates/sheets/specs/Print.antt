-- What the program prints (document 01, "Sheet and program"): the record and the answer table, in the manner of a sheet.
use Rattle.std.specs.Prelude.{List, [], ◌∷◌, ◌++◌, ℕ, length, replicate, take}
use Rattle.laws.specs.Buffers.{overwrite}
use Rattle.terms.specs.declared.Record.{Record}
use Rattle.sheets.specs.declared.Text.{Text}
use Rattle.sheets.specs.Writing.{digits}

-- A line of text: its bytes, and 0 in the rest of the array.
unfoldable pub line_of : List ℕ → Text
line_of bytes = record { bytes = overwrite bytes (replicate 80 0); len = length bytes }

-- The bytes that a line has.
unfoldable pub shown : Text → List ℕ
shown t = take t.len t.bytes

-- A number of up to 32 bits, and the byte behind it.
unfoldable pub field : ℕ → ℕ → List ℕ
field n byte = digits 10 n ++ (byte ∷ [])

-- "outcome pieces fresh free ties row" and a line's end
abbrev pub record_names : List ℕ
record_names =
    111 ∷ 117 ∷ 116 ∷ 99 ∷ 111 ∷ 109 ∷ 101 ∷ 32
    ∷ 112 ∷ 105 ∷ 101 ∷ 99 ∷ 101 ∷ 115 ∷ 32
    ∷ 102 ∷ 114 ∷ 101 ∷ 115 ∷ 104 ∷ 32
    ∷ 102 ∷ 114 ∷ 101 ∷ 101 ∷ 32
    ∷ 116 ∷ 105 ∷ 101 ∷ 115 ∷ 32
    ∷ 114 ∷ 111 ∷ 119 ∷ 10 ∷ []

-- the record's values in that order
unfoldable pub record_values : Record → List ℕ
record_values r =
    field r.outcome 32 ++ (field r.pieces 32 ++ (field r.fresh 32 ++ (field r.free 32 ++ (field r.ties 32 ++ field r.row 10))))

-- "variable kind width fresh home high" and a line's end
abbrev pub answer_names : List ℕ
answer_names =
    118 ∷ 97 ∷ 114 ∷ 105 ∷ 97 ∷ 98 ∷ 108 ∷ 101 ∷ 32
    ∷ 107 ∷ 105 ∷ 110 ∷ 100 ∷ 32
    ∷ 119 ∷ 105 ∷ 100 ∷ 116 ∷ 104 ∷ 32
    ∷ 102 ∷ 114 ∷ 101 ∷ 115 ∷ 104 ∷ 32
    ∷ 104 ∷ 111 ∷ 109 ∷ 101 ∷ 32
    ∷ 104 ∷ 105 ∷ 103 ∷ 104 ∷ 10 ∷ []

-- the numbers of one row of the answer table, in that order
unfoldable pub answer_values : ℕ → ℕ → ℕ → ℕ → ℕ → ℕ → List ℕ
answer_values variable kind width fresh home high =
    field variable 32 ++ (field kind 32 ++ (field width 32 ++ (field fresh 32 ++ (field home 32 ++ field high 10))))

-- The text of a record; and of an answer table whose numbers these are, a line for each whole row.
unfoldable pub record_text : Record → List ℕ
record_text r = record_names ++ record_values r

unfoldable pub answer_lines : List ℕ → List ℕ
answer_lines [] = []
answer_lines (v ∷ []) = []
answer_lines (v ∷ k ∷ []) = []
answer_lines (v ∷ k ∷ w ∷ []) = []
answer_lines (v ∷ k ∷ w ∷ f ∷ []) = []
answer_lines (v ∷ k ∷ w ∷ f ∷ h ∷ []) = []
answer_lines (v ∷ k ∷ w ∷ f ∷ h ∷ b ∷ numbers) = answer_values v k w f h b ++ answer_lines numbers

unfoldable pub answer_text : List ℕ → List ℕ
answer_text numbers = answer_names ++ answer_lines numbers
