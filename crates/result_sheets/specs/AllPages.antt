-- What the theorems on pages are stated with.
use Rattle.std.specs.Prelude.{Bool, ◌&&◌, ◌||◌, List, [], ◌∷◌, ◌++◌, ℕ, zero, suc, eqb, leb, drop, replicate}
use Prim.Native.String as text
use Rattle.terms.specs.declared.Record.{Record}
use Rattle.result_sheets.specs.Page.{word, blank_line, page_lines, joined}

-- Whether a byte is a blank, a digit or a small letter.
unfoldable pub is_character : ℕ → Bool
is_character byte = eqb byte 32 || ((leb 48 byte && leb byte 57) || (leb 97 byte && leb byte 122))

-- 60 blank lines.
unfoldable pub blank_page : List ℕ
blank_page = joined (replicate 60 blank_line)

-- The lines below the first one of the first n pages, in order.
unfoldable pub below_names : Record → List ℕ → ℕ → List (List ℕ)
below_names found answer zero = []
below_names found answer (suc n) = below_names found answer n ++ drop 1 (page_lines found answer n)

-- A line as it is read on paper: its characters, and a byte 10.
abbrev pub line : text.String → List ℕ
line characters = word characters ++ (10 ∷ [])
