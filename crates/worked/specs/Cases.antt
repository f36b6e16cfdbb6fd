-- Document 01's cases 1 to 10 ("Worked by hand") as one list, and what it means that a case holds. A case is about the definitions that
-- the calls' contracts name.
use Rattle.std.specs.Prelude.{◌≡◌, List, [], ◌∷◌, ◌++◌, ℕ, zero, suc, ◌^◌, ◌≤◌, length}
use Prim.Native.Char.{code}
use Prim.Native.String as text
use Rattle.terms.specs.declared.Record.{Record}
use Rattle.terms.specs.Assignments.{count}
use Rattle.laws.specs.Buffers.{overwrite}
use Rattle.terms.specs.Table.{rows_of, bits_of, satisfies}
use Rattle.forms.specs.Call.{form_record, form_after}
use Rattle.sheets.specs.Call.{sheet_record, table_after}
use Rattle.sheets.specs.Program.{program_text}
use Rattle.answers.specs.Solve.{solve_record, answer_after}
use Rattle.calls.specs.Calls.{RefusedByEach}

-- A case, by its kind.
pub data Case : Type 0 where
  -- an accepted table; the record of its solve; the answer table, empty where none is written; how many patterns meet the table
  Solved : List ℕ → Record → List ℕ → ℕ → Case
  -- a refused table; the record
  Refused : List ℕ → Record → Case
  -- a table and the number of a row; the record of the normal form call; the row's normal form
  Form : List ℕ → ℕ → Record → List ℕ → Case
  -- a sheet; the record of reading it; the table that is read, empty where none is
  Sheet : List ℕ → Record → List ℕ → Case
  -- a text; what the program prints for it
  Printed : List ℕ → List ℕ → Case

-- A solve of the table gives the record and leaves the answer at the beginning of the answer table lent; what follows keeps its content.
-- So it is whatever is lent, with room for 24,576 numbers in the answer table and for 16,384 in the work area.
abbrev pub Solves : List ℕ → Record → List ℕ → Type 0
Solves table found answer =
    (old work : List ℕ) → 24576 ≤ length old → 16384 ≤ length work
    → (solve_record table (length old) (length work) ≡ found) × (answer_after table old (length work) ≡ overwrite answer old)

-- What it means that a case holds. A refused table is refused by each call that takes one, and nothing that is lent changes. A normal form,
-- or a table that is read, stands at the beginning of what is lent for it, with room for 4,096 numbers or for 512 rows.
abbrev pub Holds : Case → Type 0
Holds (Solved table found answer patterns) =
    Solves table found answer × (count (bits_of (rows_of table)) (satisfies (rows_of table)) ≡ patterns)
Holds (Refused table found) = RefusedByEach table found
Holds (Form table r found form) =
    (old : List ℕ) → 4096 ≤ length old → (form_record table r (length old) ≡ found) × (form_after table r old ≡ overwrite form old)
Holds (Sheet sheet found table) =
    (old : List ℕ) → 2048 ≤ length old → (sheet_record sheet (length old) ≡ found) × (table_after sheet old ≡ overwrite table old)
Holds (Printed text print) = program_text text ≡ print

-- Every case of a list holds.
infixr 40 ◌and◌
pub data AllHold : List Case → Type 0 where
  nothing : AllHold []
  ◌and◌ : {c : Case} {cs : List Case} → Holds c → AllHold cs → AllHold (c ∷ cs)

-- How the cases are written: a row of four numbers; a row of the answer table; numbers written n times; a record; a line of text as
-- bytes, with byte 10 at its end.
abbrev pub row : ℕ → ℕ → ℕ → ℕ → List ℕ
row a b c d = a ∷ b ∷ c ∷ d ∷ []

abbrev pub piece : ℕ → ℕ → ℕ → ℕ → ℕ → ℕ → List ℕ
piece variable kind width fresh home high = variable ∷ kind ∷ width ∷ fresh ∷ home ∷ high ∷ []

abbrev pub times : ℕ → List ℕ → List ℕ
times zero numbers = []
times (suc n) numbers = numbers ++ times n numbers

abbrev pub figures : ℕ → ℕ → ℕ → ℕ → ℕ → ℕ → Record
figures outcome pieces fresh free ties row =
    record { outcome = outcome; pieces = pieces; fresh = fresh; free = free; ties = ties; row = row }

abbrev pub line : text.String → List ℕ
line text.[] = 10 ∷ []
line (text.◌∷◌ c s) = code c ∷ line s

-- The cases in document 01's order, in its words.
abbrev pub cases : List Case
cases =
    -- 1. The sheet above: 16 patterns.
    Sheet
    (line "kind a b c" ++ line "0 8 0 0" ++ line "3 0 6 3" ++ line "3 0 4 1" ++ line "4 1 2 0")
    (figures 0 4 0 0 0 0)
    (row 0 8 0 0 ++ row 3 0 6 3 ++ row 3 0 4 1 ++ row 4 1 2 0)
    ∷ Solved
    (row 0 8 0 0 ++ row 3 0 6 3 ++ row 3 0 4 1 ++ row 4 1 2 0)
    (figures 2 5 3 4 4 0)
    (piece 0 2 1 0 0 7 ++ piece 0 2 2 1 0 6 ++ piece 0 2 2 1 0 6 ++ piece 0 2 2 1 0 6 ++ piece 0 2 1 2 0 0)
    16
    ∷ Printed
    (line "kind a b c" ++ line "0 8 0 0" ++ line "3 0 6 3" ++ line "3 0 4 1" ++ line "4 1 2 0")
    (line "outcome pieces fresh free ties row" ++ line "2 5 3 4 4 0"
    ++ line "variable kind width fresh home high"
    ++ line "0 2 1 0 0 7" ++ line "0 2 2 1 0 6" ++ line "0 2 2 1 0 6" ++ line "0 2 2 1 0 6" ++ line "0 2 1 2 0 0")
    -- 2. Variable of 9, bits 7 to 3 equal to 5 to 1: 9 pieces, widths all 1, fresh 4, free 4, ties 5.
    ∷ Solved
    (row 0 9 0 0 ++ row 3 0 7 3 ++ row 3 0 5 1 ++ row 4 1 2 0)
    (figures 2 9 4 4 5 0)
    (piece 0 2 1 0 0 8 ++ piece 0 2 1 1 0 7 ++ piece 0 2 1 2 0 6 ++ piece 0 2 1 1 0 7 ++ piece 0 2 1 2 0 6 ++ piece 0 2 1 1 0 7 ++ piece 0 2 1 2 0 6
    ++ piece 0 2 1 1 0 7 ++ piece 0 2 1 3 0 0)
    16
    -- 3. Variable of 4, equal to itself: always, free 4.
    ∷ Solved (row 0 4 0 0 ++ row 4 0 0 0) (figures 0 0 0 4 0 0) [] 16
    -- 4. Fill 0 of 1 equal to fill 1 of 1: never, row 2.
    ∷ Solved (row 1 0 1 0 ++ row 1 1 1 0 ++ row 4 0 1 0) (figures 1 0 0 0 0 2) [] 0
    -- 5. One-bit u = v, v = 0, u = 1 in rows 4, 5, 6 after u, v and both fills: never, row 6, ties 2.
    ∷ Solved
    (row 0 1 0 0 ++ row 0 1 0 0 ++ row 1 0 1 0 ++ row 1 1 1 0 ++ row 4 0 1 0 ++ row 4 1 2 0 ++ row 4 0 3 0)
    (figures 1 0 0 0 2 6)
    []
    0
    -- 6. No rows: always, free 0.
    ∷ Solved [] (figures 0 0 0 0 0 0) [] 1
    -- 7. Width 1,024 accepted; 1,025 refused 15. Accepted: the variable alone, equal to a fill, and with each bit equal to the next.
    ∷ Solved (row 0 1024 0 0) (figures 0 0 0 1024 0 0) [] (2 ^ 1024)
    ∷ Solved (row 0 1024 0 0 ++ row 1 0 1024 0 ++ row 4 0 1 0) (figures 2 1 0 0 1024 0) (piece 0 0 1024 0 0 1023) 1
    ∷ Solved
    (row 0 1024 0 0 ++ row 3 0 1023 1 ++ row 3 0 1022 0 ++ row 4 1 2 0)
    (figures 2 1024 1 1 1023 0)
    (times 1024 (piece 0 2 1 0 0 1023))
    2
    ∷ Refused (row 0 1025 0 0) (figures 15 0 0 0 0 0)
    -- 8. Cut of a word of 8 at 7 to 0 accepted; at 8 to 0 refused 16.
    ∷ Solved (row 0 8 0 0 ++ row 3 0 7 0) (figures 0 0 0 8 0 0) [] 256
    ∷ Refused (row 0 8 0 0 ++ row 3 0 8 0) (figures 16 0 0 0 0 1)
    -- 9. Variable of 8, cut 7 to 4 joined with cut 3 to 0: a normal form of one piece.
    ∷ Form (row 0 8 0 0 ++ row 3 0 7 4 ++ row 3 0 3 0 ++ row 2 1 2 0) 3 (figures 0 1 0 8 0 0) (row 2 0 7 0)
    -- 10. Empty sheet: 21.
    ∷ Sheet [] (figures 21 0 0 0 0 0) []
    ∷ Printed [] (line "outcome pieces fresh free ties row" ++ line "21 0 0 0 0 0")
    ∷ []
