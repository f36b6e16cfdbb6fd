-- The form of an answer table (document 01, "The pattern maker takes an answer table .."): what is asked of each row, one definition
-- for each clause, by the rows before it. 33 is told for every table that has not this form.
use Rattle.std.specs.Prelude.{Bool, true, not, ◌&&◌, ◌||◌, List, [], ◌∷◌, ◌++◌, ℕ, suc, ◌+◌, ◌%◌, eqb, ltb, length}
use Rattle.laws.specs.Lists.{least}
use Rattle.answers.specs.declared.AnswerRow.{AnswerRow}
use Rattle.terms.specs.Table.{same_word}
use Rattle.answers.specs.Answer.{is_fresh, fresh_numbers, fresh_width, width_in_rows, answer_row_length, answer_numbers, answer_rows_of}
use Rattle.laws.specs.Lists.{member}

-- "Variables start at 0 and stay or rise by one, up to 63"
unfoldable pub variable_fine : List AnswerRow → AnswerRow → Bool
variable_fine [] r = eqb r.variable 0
variable_fine (s ∷ []) r = (eqb r.variable s.variable || eqb r.variable (suc s.variable)) && ltb r.variable 64
variable_fine (s ∷ q ∷ before) r = variable_fine (q ∷ before) r

-- "kinds are 0 to 2"
unfoldable pub kind_fine : AnswerRow → Bool
kind_fine r = ltb r.kind 3

-- "widths are at least 1"
unfoldable pub width_fine : AnswerRow → Bool
width_fine r = ltb 0 r.width

-- "and add up to at most 1,024 in a variable"
unfoldable pub variable_wide : List AnswerRow → AnswerRow → Bool
variable_wide before r = ltb (width_in_rows before r.variable + r.width) 1025

-- "or over 4,096 bits": the widths of all rows, which are the bits of the pattern
unfoldable pub pattern_bits : List AnswerRow → ℕ
pattern_bits [] = 0
pattern_bits (r ∷ rows) = r.width + pattern_bits rows

unfoldable pub pattern_wide : List AnswerRow → AnswerRow → Bool
pattern_wide before r = ltb (pattern_bits before + r.width) 4097

-- "Fills have fresh number 0"
unfoldable pub fill_fine : AnswerRow → Bool
fill_fine r = is_fresh r || eqb r.fresh 0

-- "and neighbouring fills of one variable differ in bit"
unfoldable pub neighbours_fine : List AnswerRow → AnswerRow → Bool
neighbours_fine [] r = true
neighbours_fine (s ∷ []) r = is_fresh r || is_fresh s || not (eqb s.variable r.variable) || not (eqb s.kind r.kind)
neighbours_fine (s ∷ q ∷ before) r = neighbours_fine (q ∷ before) r

-- "A fresh number is one already seen, with the same width, or the lowest unseen"
unfoldable pub lowest_unseen : List AnswerRow → ℕ
lowest_unseen before = least (λ k. not (member k (fresh_numbers before))) 0 (length before)

unfoldable pub fresh_fine : List AnswerRow → AnswerRow → Bool
fresh_fine before r =
    not (is_fresh r)
    || (member r.fresh (fresh_numbers before) && eqb (fresh_width before r.fresh) r.width)
    || eqb r.fresh (lowest_unseen before)

-- A row behind those before it, and all rows of a table.
unfoldable pub row_fine : List AnswerRow → AnswerRow → Bool
row_fine before r =
    variable_fine before r
    && kind_fine r
    && width_fine r
    && variable_wide before r
    && pattern_wide before r
    && fill_fine r
    && neighbours_fine before r
    && fresh_fine before r

unfoldable pub rows_fine : List AnswerRow → List AnswerRow → Bool
rows_fine before [] = true
rows_fine before (r ∷ rows) = row_fine before r && rows_fine (before ++ (r ∷ [])) rows

-- "33 also for a wrong home or high" (document 02, (vi)): the numbers are those with which their rows are written
unfoldable pub homes_fine : List ℕ → Bool
homes_fine numbers = same_word (answer_numbers (answer_rows_of numbers)) numbers

-- "The table lent to it is whole rows, all in use."
unfoldable pub has_form : List ℕ → Bool
has_form numbers = eqb (length numbers % answer_row_length) 0 && rows_fine [] (answer_rows_of numbers) && homes_fine numbers
