-- The right sides of a solved table (document 01, "The solver's answer"), from the widths of the variables and from which bits are
-- equal. `same s t` says whether two sources are equal in every assignment that satisfies the table; there is no algorithm here.
use Rattle.std.specs.Prelude.{Bool, true, false, not, ◌&&◌, ◌||◌, cond, List, [], ◌∷◌, ◌++◌, reverse, ℕ, zero, suc, ◌+◌, ◌-◌, pred, eqb, ltb, get_or, take, drop, replicate}
use Rattle.terms.specs.declared.Row.{Row}
use Rattle.answers.specs.declared.AnswerRow.{AnswerRow}
use Rattle.terms.specs.Table.{if_variable}
use Rattle.laws.specs.Bools.{implies}
use Rattle.laws.specs.Lists.{least, below, tally, distinct}

-- The widths of the variables of a table, variable 0 first.
unfoldable pub variable_widths : List Row → List ℕ
variable_widths [] = []
variable_widths (r ∷ rs) = if_variable r (r.a ∷ variable_widths rs) (variable_widths rs)

-- Whether a variable begins at place i, with its high bit; the end of the last variable counts too. And the variable of place i.
unfoldable pub begins : List ℕ → ℕ → Bool
begins [] i = true
begins (w ∷ ws) i = cond (ltb i w) (eqb i 0) (begins ws (i - w))

unfoldable pub variable_at : List ℕ → ℕ → ℕ
variable_at [] i = 0
variable_at (w ∷ ws) i = cond (ltb i w) 0 (suc (variable_at ws (i - w)))

-- Whether places i and j are tied; whether place i is fixed to the bit b; whether it is unfixed.
abbrev pub tied : (ℕ → ℕ → Bool) → ℕ → ℕ → Bool
tied same i j = same (suc (suc i)) (suc (suc j))

abbrev pub fixed_to : (ℕ → ℕ → Bool) → ℕ → ℕ → Bool
fixed_to same i b = same (suc (suc i)) b

abbrev pub unfixed : (ℕ → ℕ → Bool) → ℕ → Bool
unfixed same i = not (fixed_to same i 0) && not (fixed_to same i 1)

-- Whether the neighbouring places i and i + 1 lie in one fresh piece: both are unfixed and of one variable, and wherever the tied bits
-- of either one stand, those of the other stand beside them in the same variable and the same order.
unfoldable pub contiguous : ℕ → List ℕ → (ℕ → ℕ → Bool) → ℕ → Bool
contiguous n ws same i =
    unfixed same i
    && unfixed same (suc i)
    && not (begins ws (suc i))
    && below n (λ k. implies (tied same k (suc i)) (not (begins ws k) && tied same (pred k) i))
    && below n (λ k. implies (tied same k i) (not (begins ws (suc k)) && tied same (suc k) (suc i)))

-- Whether places i and i + 1 are fixed to the same bit.
unfoldable pub fixed_alike : (ℕ → ℕ → Bool) → ℕ → Bool
fixed_alike same i = (fixed_to same i 0 && fixed_to same (suc i) 0) || (fixed_to same i 1 && fixed_to same (suc i) 1)

-- Whether place i goes on with the row of the place before it: a fill as long as the run of its bit within its variable, or a fresh
-- piece.
unfoldable pub goes_on : ℕ → List ℕ → (ℕ → ℕ → Bool) → ℕ → Bool
goes_on n ws same zero = false
goes_on n ws same (suc i) = not (begins ws (suc i)) && (fixed_alike same i || contiguous n ws same i)

-- The lowest place that is tied to place i.
unfoldable pub lowest : (ℕ → ℕ → Bool) → ℕ → ℕ
lowest same i = least (tied same i) 0 i

-- Whether a fresh piece begins at place i that has not appeared before.
unfoldable pub appears : ℕ → List ℕ → (ℕ → ℕ → Bool) → ℕ → Bool
appears n ws same i = eqb (lowest same i) i && (unfixed same i && not (goes_on n ws same i))

-- A place as a row of one bit: 0 or 1 a fill, 2 a fresh piece. The number of a fresh piece that begins there is how many appear
-- before it does for the first time.
unfoldable pub place_row : ℕ → List ℕ → (ℕ → ℕ → Bool) → ℕ → AnswerRow
place_row n ws same i =
    record {
      variable = variable_at ws i;
      kind = cond (fixed_to same i 0) 0 (cond (fixed_to same i 1) 1 2);
      width = 1;
      fresh = cond (unfixed same i) (tally (lowest same i) (appears n ws same)) 0;
    }

-- A row with one bit more.
abbrev pub widened : AnswerRow → AnswerRow
widened r = record { variable = r.variable; kind = r.kind; width = suc r.width; fresh = r.fresh }

-- One place more behind rows that stand last first: the last row goes on, or a row begins.
unfoldable pub placed : Bool → AnswerRow → List AnswerRow → List AnswerRow
placed on r [] = r ∷ []
placed on r (s ∷ rows) = cond on (widened s ∷ rows) (r ∷ s ∷ rows)

-- The rows of the places below i, last first; and the answer's rows.
unfoldable pub rows_to : ℕ → List ℕ → (ℕ → ℕ → Bool) → ℕ → List AnswerRow
rows_to n ws same zero = []
rows_to n ws same (suc i) = placed (goes_on n ws same i) (place_row n ws same i) (rows_to n ws same i)

unfoldable pub answer_rows : ℕ → List ℕ → (ℕ → ℕ → Bool) → List AnswerRow
answer_rows n ws same = reverse (rows_to n ws same n)

-- What is read past the end of an answer table, and row j of it.
abbrev pub no_answer_row : AnswerRow
no_answer_row = record { variable = 0; kind = 0; width = 0; fresh = 0 }

abbrev pub answer_row_at : List AnswerRow → ℕ → AnswerRow
answer_row_at rows j = get_or rows j no_answer_row

-- The fresh numbers in a table's rows; how many fresh pieces it has; the width of fresh piece k, from its first row; where its bits
-- begin among the fresh bits (fresh piece 0 first); and how many fresh bits there are, each piece once.
abbrev pub is_fresh : AnswerRow → Bool
is_fresh r = not (ltb r.kind 2)

unfoldable pub fresh_numbers : List AnswerRow → List ℕ
fresh_numbers [] = []
fresh_numbers (r ∷ rows) = cond (is_fresh r) (r.fresh ∷ fresh_numbers rows) (fresh_numbers rows)

unfoldable pub fresh_pieces : List AnswerRow → ℕ
fresh_pieces rows = distinct (fresh_numbers rows)

unfoldable pub fresh_width : List AnswerRow → ℕ → ℕ
fresh_width [] k = 0
fresh_width (r ∷ rows) k = cond (is_fresh r && eqb r.fresh k) r.width (fresh_width rows k)

unfoldable pub fresh_start : List AnswerRow → ℕ → ℕ
fresh_start rows zero = 0
fresh_start rows (suc k) = fresh_start rows k + fresh_width rows k

unfoldable pub free_bits : List AnswerRow → ℕ
free_bits rows = fresh_start rows (fresh_pieces rows)

-- The bits of a row of a table at the fresh bits f (a filling): a fill's copies, or those of its fresh piece.
unfoldable pub row_bits : List AnswerRow → List ℕ → AnswerRow → List ℕ
row_bits rows f r = cond (is_fresh r) (take r.width (drop (fresh_start rows r.fresh) f)) (replicate r.width r.kind)

unfoldable pub bits_of_rows : List AnswerRow → List ℕ → List AnswerRow → List ℕ
bits_of_rows rows f [] = []
bits_of_rows rows f (r ∷ rs) = row_bits rows f r ++ bits_of_rows rows f rs

-- The assignment (pattern) that an answer table gives at the fresh bits f.
unfoldable pub instantiate : List AnswerRow → List ℕ → List ℕ
instantiate rows f = bits_of_rows rows f rows

-- The widths of the rows of one variable.
unfoldable pub width_in_rows : List AnswerRow → ℕ → ℕ
width_in_rows [] v = 0
width_in_rows (r ∷ rows) v = cond (eqb r.variable v) r.width 0 + width_in_rows rows v

-- The number of row j's highest bit in its variable, counted width - 1 down to 0: the widths of its variable's rows from it on, less 1.
unfoldable pub high_bit : List AnswerRow → ℕ → ℕ
high_bit rows j = width_in_rows (drop j rows) (answer_row_at rows j).variable - 1

-- The row where the piece of row j first appears: the first row of its fresh piece; a fill is its own.
unfoldable pub home_row : List AnswerRow → ℕ → ℕ
home_row rows j =
    cond (is_fresh (answer_row_at rows j)) (least (λ i. is_fresh (answer_row_at rows i) && eqb (answer_row_at rows i).fresh (answer_row_at rows j).fresh) 0 j) j

-- An answer table as it is written: so many numbers for each row, in the order variable, kind, width, fresh number, home, high. Home and
-- high are the variable and the highest bit of the row where its piece first appears.
abbrev pub answer_row_length : ℕ
answer_row_length = 6

unfoldable pub answer_row_numbers : List AnswerRow → ℕ → List ℕ
answer_row_numbers rows j =
    (answer_row_at rows j).variable
    ∷ (answer_row_at rows j).kind
    ∷ (answer_row_at rows j).width
    ∷ (answer_row_at rows j).fresh
    ∷ (answer_row_at rows (home_row rows j)).variable
    ∷ high_bit rows (home_row rows j)
    ∷ []

-- The numbers of as many rows of a table as are in a list, from row j on; and those of all its rows.
unfoldable pub numbers_from : List AnswerRow → ℕ → List AnswerRow → List ℕ
numbers_from rows j [] = []
numbers_from rows j (r ∷ rs) = answer_row_numbers rows j ++ numbers_from rows (suc j) rs

unfoldable pub answer_numbers : List AnswerRow → List ℕ
answer_numbers rows = numbers_from rows 0 rows

-- The numbers of an answer table as rows: the first four of each six.
unfoldable pub answer_rows_of : List ℕ → List AnswerRow
answer_rows_of [] = []
answer_rows_of (v ∷ []) = []
answer_rows_of (v ∷ k ∷ []) = []
answer_rows_of (v ∷ k ∷ w ∷ []) = []
answer_rows_of (v ∷ k ∷ w ∷ f ∷ []) = []
answer_rows_of (v ∷ k ∷ w ∷ f ∷ h ∷ []) = []
answer_rows_of (v ∷ k ∷ w ∷ f ∷ h ∷ b ∷ numbers) = record { variable = v; kind = k; width = w; fresh = f } ∷ answer_rows_of numbers
