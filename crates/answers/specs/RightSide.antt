-- The right side of one variable as a part of the caller's answer table (document 01, "The solver's answer").
use Rattle.std.specs.Prelude.{cond, List, [], ◌∷◌, map, ℕ, suc, ◌*◌, eqb, ltb, length, take, drop}
use Rattle.answers.specs.Answer.{answer_row_length, answer_rows_of}

-- The variable of each of the whole rows lent.
unfoldable pub row_variables : List ℕ → List ℕ
row_variables answer = map (λ r. r.variable) (answer_rows_of answer)

-- The variables of the rows in use; none if these exceed the whole rows lent.
unfoldable pub variables_in_use : List ℕ → ℕ → List ℕ
variables_in_use answer rows = cond (ltb (length (row_variables answer)) rows) [] (take rows (row_variables answer))

-- How many rows stand before the first row of a variable: all of them, if there is no such row.
unfoldable pub rows_before : ℕ → List ℕ → ℕ
rows_before variable [] = 0
rows_before variable (v ∷ vs) = cond (eqb v variable) 0 (suc (rows_before variable vs))

-- How many rows of a variable follow directly, from the first of these rows on.
unfoldable pub rows_on : ℕ → List ℕ → ℕ
rows_on variable [] = 0
rows_on variable (v ∷ vs) = cond (eqb v variable) (suc (rows_on variable vs)) 0

-- The rows of the run from the first row of a variable through the rows of it that follow directly.
unfoldable pub run_rows : ℕ → List ℕ → ℕ
run_rows variable vs = rows_on variable (drop (rows_before variable vs) vs)

-- How many numbers the right side has: those of its rows.
unfoldable pub right_side_length : List ℕ → ℕ → ℕ → ℕ
right_side_length answer rows variable = answer_row_length * run_rows variable (variables_in_use answer rows)

-- Where it starts; an empty one starts at 0.
unfoldable pub right_side_start : List ℕ → ℕ → ℕ → ℕ
right_side_start answer rows variable =
    cond (eqb (right_side_length answer rows variable) 0) 0 (answer_row_length * rows_before variable (variables_in_use answer rows))

-- The right side of a variable, where so many rows of the answer table are in use.
unfoldable pub right_side : List ℕ → ℕ → ℕ → List ℕ
right_side answer rows variable = take (right_side_length answer rows variable) (drop (right_side_start answer rows variable) answer)
