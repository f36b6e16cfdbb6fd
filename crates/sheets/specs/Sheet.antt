-- What a sheet is (document 01, "Sheet and program"): a line of names, then at most 512 lines of values.
use Rattle.std.specs.Prelude.{◌≡◌, cond, List, [], ◌∷◌, ℕ, zero, suc, ◌+◌, ltb, length, Result, Ok, Err}
use Rattle.terms.specs.declared.Row.{Row}
use Rattle.sheets.specs.declared.Order.{Order}
use Rattle.sheets.specs.declared.SheetError.{SheetError}
use Rattle.sheets.specs.declared.SheetError.TheVariants.{TooLong, WrongNames, TooMany, WrongLine}
use Rattle.sheets.specs.Text.{LineFound, Values, NoLine, NamesFound, InOrder, NoNames, line_at, names_at}

-- What follows a line, by whether it is one.
abbrev pub by_line : {A : Type 0} → LineFound → (Row → ℕ → A) → A → A
by_line (Values row at) next other = next row at
by_line NoLine next other = other

-- What is found of the lines from a place on, the first of them being line k, where n more may stand.
unfoldable pub found_from : ℕ → List ℕ → Order → ℕ → ℕ → Result ℕ SheetError
found_from zero text order k at = cond (ltb at (length text)) (Err TooMany) (Ok k)
found_from (suc n) text order k at =
    cond (ltb at (length text)) (by_line (line_at text order at) (λ row next. found_from n text order (k + 1) next) (Err (WrongLine k))) (Ok k)

-- The rows of the lines from a place on, up to a wrong one, n at the most.
unfoldable pub rows_from : ℕ → List ℕ → Order → ℕ → List Row
rows_from zero text order at = []
rows_from (suc n) text order at =
    cond (ltb at (length text)) (by_line (line_at text order at) (λ row next. row ∷ rows_from n text order next) []) []

-- What is found of a text, and its rows: over 16,384 bytes, names line otherwise, then the lines.
abbrev pub by_names : {A : Type 0} → NamesFound → (Order → ℕ → A) → A → A
by_names (InOrder order at) next other = next order at
by_names NoNames next other = other

unfoldable pub sheet_found : List ℕ → Result ℕ SheetError
sheet_found text =
    cond (ltb 16384 (length text)) (Err TooLong)
    (by_names (names_at text 0) (λ order at. found_from 512 text order 0 at) (Err WrongNames))

unfoldable pub sheet_rows : List ℕ → List Row
sheet_rows text =
    cond (ltb 16384 (length text)) []
    (by_names (names_at text 0) (λ order at. rows_from 512 text order at) [])

-- A text is accepted, and read as these rows.
abbrev pub ReadAs : List ℕ → List Row → Type 0
ReadAs text rows = (sheet_found text ≡ Ok (length rows)) × (sheet_rows text ≡ rows)
