-- How a line is made byte by byte.
use Rattle.std.specs.Prelude.{cond, List, [], ◌∷◌, ◌++◌, ℕ, ◌+◌, ltb, set}
use Rattle.sheets.specs.declared.Text.{Text}
use Rattle.sheets.specs.Print.{field}

-- A line with one byte more, if there is room.
unfoldable pub pushed : Text → ℕ → Text
pushed t byte = cond (ltb t.len 80) (record { bytes = set t.bytes t.len byte; len = t.len + 1 }) t

-- A line with these bytes more.
unfoldable pub push_all : Text → List ℕ → Text
push_all t [] = t
push_all t (byte ∷ bytes) = push_all (pushed t byte) bytes

-- Numbers as a line shows them: a space behind each but the last, and behind that the line's end.
unfoldable pub fields : List ℕ → List ℕ
fields [] = []
fields (n ∷ []) = field n 10
fields (n ∷ m ∷ ns) = field n 32 ++ fields (m ∷ ns)
