-- The pages of a result sheet (document 02, request (iv)), made from a record and an answer table, by number from 0: the bytes of each.
use Rattle.std.specs.Prelude.{cond, List, [], ◌∷◌, ◌++◌, map, ℕ, zero, suc, ◌+◌, ◌*◌, ◌-◌, ◌/◌, eqb, ltb, length, get_or, take, replicate}
use Prim.Native.Char.{code}
use Prim.Native.String as text
use Rattle.laws.specs.Lists.{count_up}
use Rattle.terms.specs.declared.Record.{Record}
use Rattle.answers.specs.declared.AnswerRow.{AnswerRow}
use Rattle.answers.specs.Answer.{answer_rows_of}
use Rattle.sheets.specs.Writing.{digits}

-- The bytes of a word.
abbrev pub word : text.String → List ℕ
word text.[] = []
word (text.◌∷◌ c s) = code c ∷ word s

-- Names and numbers are right-aligned in columns of 10. A number of up to 32 bits has at most 10 digits (`digits 10`).
unfoldable pub cell : List ℕ → List ℕ
cell bytes = replicate (10 - length bytes) 32 ++ bytes

-- A line: four columns, that is 40 characters, and a byte 10.
unfoldable pub line_of : List ℕ → List ℕ → List ℕ → List ℕ → List ℕ
line_of a b c d = cell a ++ (cell b ++ (cell c ++ (cell d ++ (10 ∷ []))))

-- Line one has the four names of the answer table.
unfoldable pub names_line : List ℕ
names_line = line_of (word "variable") (word "kind") (word "width") (word "fresh")

-- Each further line has one piece.
unfoldable pub piece_line : AnswerRow → List ℕ
piece_line r = line_of (digits 10 r.variable) (digits 10 r.kind) (digits 10 r.width) (digits 10 r.fresh)

-- Any outcome but 2 stands in the first column.
unfoldable pub outcome_line : ℕ → List ℕ
outcome_line n = line_of (digits 10 n) [] [] []

-- Unused lines are blanks.
unfoldable pub blank_line : List ℕ
blank_line = line_of [] [] [] []

-- There are as many pieces as the record says, or as whole rows lent if these are fewer.
unfoldable pub page_pieces : Record → List ℕ → List AnswerRow
page_pieces found answer = take found.pieces (answer_rows_of answer)

-- The lines below the names, of all pages together: the pieces; for any outcome but 2 that number alone.
unfoldable pub listed : Record → List ℕ → List (List ℕ)
listed found answer = cond (eqb found.outcome 2) (map piece_line (page_pieces found answer)) (outcome_line found.outcome ∷ [])

-- How many of them a page has.
abbrev pub on_page : ℕ
on_page = 59

-- How many pages there are. Page 0 is always there.
unfoldable pub page_count : Record → List ℕ → ℕ
page_count found answer = 1 + (length (listed found answer) - 1) / on_page

-- A line of a page that is there: the names, and then the lines that are this page's.
unfoldable pub page_line : Record → List ℕ → ℕ → ℕ → List ℕ
page_line found answer k zero = names_line
page_line found answer k (suc l) = get_or (listed found answer) (k * on_page + l) blank_line

-- The 60 lines of page k. A number past the last page gives only blank lines.
unfoldable pub page_lines : Record → List ℕ → ℕ → List (List ℕ)
page_lines found answer k = cond (ltb k (page_count found answer)) (map (page_line found answer k) (count_up 0 60)) (replicate 60 blank_line)

-- Lines one after the other.
unfoldable pub joined : List (List ℕ) → List ℕ
joined [] = []
joined (line ∷ lines) = line ++ joined lines

-- The bytes of page k.
unfoldable pub page_text : Record → List ℕ → ℕ → List ℕ
page_text found answer k = joined (page_lines found answer k)
