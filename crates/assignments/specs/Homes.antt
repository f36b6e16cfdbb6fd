-- What the theorems say of home and high in a table of the form (document 02, (vi); proofs/HomePieces.antt).
use Rattle.std.specs.Prelude.{◌≡◌, Bool, true, cond, List, [], ◌∷◌, ℕ, zero, suc, ◌+◌, ◌-◌, ◌*◌, ◌<◌, ltb, length, get_or, take, drop}
use Rattle.terms.specs.declared.Row.{Row}
use Rattle.terms.specs.Table.{bits_of, satisfies, extract}
use Rattle.answers.specs.declared.AnswerRow.{AnswerRow}
use Rattle.answers.specs.Answer.{variable_widths, variable_at, unfixed, lowest, answer_row_at, answer_row_length, answer_numbers, answer_rows_of, width_in_rows, free_bits, instantiate}
use Rattle.answers.specs.Pairs.{equal_under}
use Rattle.answers.specs.Solve.{solved_rows}
use Rattle.assignments.specs.Form.{pattern_bits, has_form}

-- Where the bits of a variable begin in a pattern of the rows: behind those of the variables before it. And its bits.
unfoldable pub variable_start : List AnswerRow → ℕ → ℕ
variable_start rows zero = 0
variable_start rows (suc v) = variable_start rows v + width_in_rows rows v

unfoldable pub variable_bits : List AnswerRow → ℕ → List ℕ → List ℕ
variable_bits rows v p = take (width_in_rows rows v) (drop (variable_start rows v) p)

-- The bits of row j in a pattern of the rows: behind those of the rows before it.
unfoldable pub bits_at : List AnswerRow → ℕ → List ℕ → List ℕ
bits_at rows j p = take (answer_row_at rows j).width (drop (pattern_bits (take j rows)) p)

-- The home and the high bit of row j as they are written.
abbrev pub home_at : List ℕ → ℕ → ℕ
home_at t j = get_or t (j * answer_row_length + 4) 0

abbrev pub high_at : List ℕ → ℕ → ℕ
high_at t j = get_or t (j * answer_row_length + 5) 0

-- The home has the piece: in every pattern of a table of the form, the bits of a row are the bits high down to high - width + 1 of variable
-- home.
abbrev pub HomeHasPiece : Type 0
HomeHasPiece =
    (t : List ℕ) → has_form t ≡ true → (f : List ℕ) → length f ≡ free_bits (answer_rows_of t) → (j : ℕ) → j < length (answer_rows_of t)
    → bits_at (answer_rows_of t) j (instantiate (answer_rows_of t) f)
    ≡ extract (variable_bits (answer_rows_of t) (home_at t j) (instantiate (answer_rows_of t) f)) (high_at t j) (high_at t j + 1 - (answer_row_at (answer_rows_of t) j).width)

-- The first four numbers of each row decide the others: two tables of the form that are read as the same rows are equal.
abbrev pub FourDecide : Type 0
FourDecide = (t u : List ℕ) → has_form t ≡ true → has_form u ≡ true → answer_rows_of t ≡ answer_rows_of u → t ≡ u

-- The number of place i's bit in its variable, where the variables have these widths: counted width - 1 down to 0.
unfoldable pub bit_at : List ℕ → ℕ → ℕ
bit_at [] i = 0
bit_at (w ∷ ws) i = cond (ltb i w) (w - 1 - i) (bit_at ws (i - w))

-- The lowest place that is tied to place i; place i itself where it is fixed.
unfoldable pub home_place : (ℕ → ℕ → Bool) → ℕ → ℕ
home_place same i = cond (unfixed same i) (lowest same i) i

-- The first place of row j of a table's answer, and its home place.
abbrev pub first_place : List Row → ℕ → ℕ
first_place t j = pattern_bits (take j (solved_rows t))

abbrev pub home_of : List Row → ℕ → ℕ
home_of t j = home_place (equal_under (bits_of t) (satisfies t)) (first_place t j)

-- Home and high of a row of a solved table's answer are variable and bit of the lowest place that is tied to the row's first place, or of that
-- place itself where it is fixed.
abbrev pub HomesAreLowest : List Row → Type 0
HomesAreLowest t =
    (j : ℕ) → j < length (solved_rows t)
    → (home_at (answer_numbers (solved_rows t)) j ≡ variable_at (variable_widths t) (home_of t j))
    × (high_at (answer_numbers (solved_rows t)) j ≡ bit_at (variable_widths t) (home_of t j))
