-- What a term table means (document 01, "The term table"; document 02, (i), (iii) and (vii)): its rows, their widths and values, and when an
-- assignment satisfies it. The bits of a word stand high end first.
use Rattle.std.specs.Prelude.{Bool, true, false, ◌&&◌, ◌||◌, cond, List, [], ◌∷◌, ◌++◌, ℕ, zero, suc, ◌+◌, ◌-◌, eqb, ltb, length, get_or, take, drop, replicate}
use Rattle.terms.specs.declared.Row.{Row}
use Rattle.laws.specs.Lists.{count_up, least}
use Rattle.laws.specs.Binary.{binary}

-- The numbers of a table as rows of kind, a, b, c.
unfoldable pub rows_of : List ℕ → List Row
rows_of [] = []
rows_of (k ∷ []) = []
rows_of (k ∷ a ∷ []) = []
rows_of (k ∷ a ∷ b ∷ []) = []
rows_of (k ∷ a ∷ b ∷ c ∷ t) = record { kind = k; a = a; b = b; c = c } ∷ rows_of t

-- Rows as a table is written: four numbers each, in the order kind, a, b, c.
unfoldable pub row_numbers : List Row → List ℕ
row_numbers [] = []
row_numbers (r ∷ rs) = r.kind ∷ r.a ∷ r.b ∷ r.c ∷ row_numbers rs

-- What is read past the end of a table.
abbrev pub no_row : Row
no_row = record { kind = 0; a = 0; b = 0; c = 0 }

-- Row r of a table.
abbrev pub row_at : List Row → ℕ → Row
row_at t r = get_or t r no_row

-- What goes with a kind: 0 a variable, 1 and 5 a fixed word (fill, value), 2 a concatenation (join), 3 an extraction (cut),
-- 4 an equation. A row of a kind above 5 is refused.
unfoldable pub by_kind : {A : Type 0} → ℕ → A → A → A → A → A → A
by_kind zero variable fixed concat extraction equation = variable
by_kind (suc zero) variable fixed concat extraction equation = fixed
by_kind (suc (suc zero)) variable fixed concat extraction equation = concat
by_kind (suc (suc (suc zero))) variable fixed concat extraction equation = extraction
by_kind (suc (suc (suc (suc zero)))) variable fixed concat extraction equation = equation
by_kind (suc (suc (suc (suc (suc k))))) variable fixed concat extraction equation = fixed

-- What goes with a variable, and what with any other row.
abbrev pub if_variable : {A : Type 0} → Row → A → A → A
if_variable r variable other = by_kind r.kind variable other other other other

-- What goes with an equation, and what with any other row.
abbrev pub if_equation : {A : Type 0} → Row → A → A → A
if_equation r equation other = by_kind r.kind other other other other equation

-- The first equation of a table from row `from` on and below row `rows`; where there is none, the greater of the two.
unfoldable pub next_equation : List Row → ℕ → ℕ → ℕ
next_equation t from rows = least (λ r. eqb (row_at t r).kind 4) from (rows - from)

-- A list with one element for each row, from the first row on: `next` makes the element of the rows before the
-- row, of their elements, and of the row.
unfoldable pub by_rows : {A : Type 0} → (List Row → List A → Row → A) → List Row → List A → List Row → List A
by_rows next before made [] = made
by_rows next before made (r ∷ rs) = by_rows next (before ++ (r ∷ [])) (made ++ (next before made r ∷ [])) rs

-- A row's width, from the widths ws of the rows before it. An equation has none.
unfoldable pub width_in : List ℕ → Row → ℕ
width_in ws r =
    by_kind r.kind
    r.a
    r.b
    (get_or ws r.a 0 + get_or ws r.b 0)
    (r.b + 1 - r.c)
    0

-- The widths of the rows of a table.
unfoldable pub widths_of : List Row → List ℕ
widths_of t = by_rows (λ before ws r. width_in ws r) [] [] t

abbrev pub width_of : List Row → ℕ → ℕ
width_of t r = get_or (widths_of t) r 0

-- The variable bits of one row, and of rows together. An assignment (pattern) of a table has so many bits.
unfoldable pub bits_in : Row → ℕ
bits_in r = if_variable r r.a 0

unfoldable pub bits_of : List Row → ℕ
bits_of [] = 0
bits_of (r ∷ rs) = bits_in r + bits_of rs

-- How many rows are of one kind.
unfoldable pub count_kind : ℕ → List Row → ℕ
count_kind k [] = 0
count_kind k (r ∷ rs) = cond (eqb r.kind k) 1 0 + count_kind k rs

-- Bits high down to low of a word.
unfoldable pub extract : List ℕ → ℕ → ℕ → List ℕ
extract word high low = take (high + 1 - low) (drop (length word - (high + 1)) word)

-- The bits of a fixed word: copies of a fill's bit, or the bits of a value's number, high bit first.
unfoldable pub fixed_word : Row → List ℕ
fixed_word r = cond (eqb r.kind 1) (replicate r.b r.a) (binary r.b r.a)

-- A row's value under the assignment p, from the rows before it and their values vs: a variable gives its bits, so does
-- a fixed word, a concatenation sets two values side by side, an extraction keeps bits b down to c.
unfoldable pub value_in : List ℕ → List Row → List (List ℕ) → Row → List ℕ
value_in p before vs r =
    by_kind r.kind
    (take r.a (drop (bits_of before) p))
    (fixed_word r)
    (get_or vs r.a [] ++ get_or vs r.b [])
    (extract (get_or vs r.a []) r.b r.c)
    []

-- The values of the rows of a table under the assignment p.
unfoldable pub values_of : List Row → List ℕ → List (List ℕ)
values_of t p = by_rows (value_in p) [] [] t

abbrev pub value_of : List Row → List ℕ → ℕ → List ℕ
value_of t p r = get_or (values_of t p) r []

-- A source is where a bit comes from: 0 and 1 are the constants, i + 2 is place i of an assignment.
-- The bit of source s under p:
unfoldable pub bit_of : List ℕ → ℕ → ℕ
bit_of p s = get_or (0 ∷ 1 ∷ p) s 0

-- Each row's bits as sources: its value where each place has its own source for a bit.
unfoldable pub sources_of : List Row → List (List ℕ)
sources_of t = values_of t (count_up 2 (bits_of t))

abbrev pub source_of : List Row → ℕ → List ℕ
source_of t r = get_or (sources_of t) r []

-- Whether two words are equal bit for bit.
unfoldable pub same_word : List ℕ → List ℕ → Bool
same_word [] [] = true
same_word [] (y ∷ ys) = false
same_word (x ∷ xs) [] = false
same_word (x ∷ xs) (y ∷ ys) = eqb x y && same_word xs ys

-- A word brought to the length of another: zeros at the high end for what it is shorter by, none if it is not shorter.
unfoldable pub evened : List ℕ → List ℕ → List ℕ
evened word other = replicate (length other - length word) 0 ++ word

-- Whether a row, if it is an equation, has equal sides once the narrower one is filled, where vs are the values of the rows.
unfoldable pub sides_agree : List (List ℕ) → Row → Bool
sides_agree vs r =
    if_equation r
    (same_word (evened (get_or vs r.a []) (get_or vs r.b [])) (evened (get_or vs r.b []) (get_or vs r.a [])))
    true

unfoldable pub all_rows : (Row → Bool) → List Row → Bool
all_rows f [] = true
all_rows f (r ∷ rs) = f r && all_rows f rs

-- The row that says nothing: the equation of row 0 with itself.
abbrev pub silent_row : Row
silent_row = record { kind = 4; a = 0; b = 0; c = 0 }

-- The rows of a table with some left off: each row that a test of it and of the rows behind it picks is the row that says nothing.
unfoldable pub leaving_off : (Row → List Row → Bool) → List Row → List Row
leaving_off picked [] = []
leaving_off picked (r ∷ rs) = cond (picked r rs) silent_row r ∷ leaving_off picked rs

-- Whether a row is an equation of line n: column c of an equation is its line number, 0 for none.
unfoldable pub of_line : ℕ → Row → Bool
of_line n r = eqb r.kind 4 && eqb r.c n

unfoldable pub some_row : (Row → Bool) → List Row → Bool
some_row f [] = false
some_row f (r ∷ rs) = f r || some_row f rs

-- Whether a row is an equation with a line number above 0 that some equation behind it has too.
unfoldable pub revised : Row → List Row → Bool
revised r behind = eqb r.kind 4 && (ltb 0 r.c && some_row (of_line r.c) behind)

-- A table's rows with the revised equations left off: its equations are those that count.
unfoldable pub counting : List Row → List Row
counting t = leaving_off revised t

-- Whether an assignment satisfies (meets) a table: in each equation that counts the filled sides have equal values.
unfoldable pub satisfies : List Row → List ℕ → Bool
satisfies t p = all_rows (sides_agree (values_of t p)) (counting t)
