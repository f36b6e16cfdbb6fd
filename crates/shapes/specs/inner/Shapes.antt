-- What the functions that read the form of an answer table compute and promise.
use Rattle.std.specs.Prelude.{◌≡◌, Bool, true, not, Option, is_some, unwrap_or, ◌&&◌, ◌||◌, cond, List, [], ℕ, ◌+◌, ◌%◌, ◌≤◌, ◌<◌, eqb, ltb, length, get_or}
use Rattle.answers.specs.declared.AnswerRow.{AnswerRow}
use Rattle.answers.specs.Answer.{is_fresh, fresh_start, free_bits, answer_row_at, answer_row_length, answer_rows_of}
use Rattle.assignments.specs.Form.{pattern_bits, rows_fine, has_form}
use Rattle.shapes.specs.declared.Progress.{Progress}
use Rattle.shapes.specs.declared.Found.{Found}

-- The width of variable v in the rows passed.
unfoldable pub width_before : Progress → ℕ → ℕ
width_before p v = cond (eqb v p.variable) p.width 0

-- Whether a row has the first place of a fresh piece.
unfoldable pub is_new : Progress → AnswerRow → Bool
is_new p r = not (ltb r.kind 2) && eqb r.fresh p.pieces

-- Whether a row's variable is the last row's or the one above it, up to 63.
unfoldable pub variable_in : Progress → AnswerRow → Bool
variable_in p r = ltb r.variable 64 && (eqb r.variable p.variable || eqb r.variable p.next)

-- Whether a row's width is at least 1 and has room in its variable and in the pattern.
unfoldable pub widths_in : Progress → AnswerRow → Bool
widths_in p r = ltb 0 r.width && ltb (width_before p r.variable + r.width) 1025 && ltb (p.bits + r.width) 4097

-- Whether a fill has fresh number 0 and differs from a fill before it in the same variable.
unfoldable pub fill_in : Progress → AnswerRow → Bool
fill_in p r = eqb r.fresh 0 && not (eqb r.variable p.variable && eqb r.kind p.kind)

-- Whether a fresh number was seen with the same width, or is the lowest unseen. w is the width it was seen with.
unfoldable pub fresh_in : Progress → AnswerRow → ℕ → Bool
fresh_in p r w = ltb r.kind 3 && cond (ltb r.fresh p.pieces) (eqb w r.width) (eqb r.fresh p.pieces)

-- Whether a row is fine behind those passed.
unfoldable pub fine_in : Progress → AnswerRow → ℕ → Bool
fine_in p r w = variable_in p r && widths_in p r && cond (ltb r.kind 2) (fill_in p r) (fresh_in p r w)

-- The state with one row more.
unfoldable pub advanced : Progress → AnswerRow → Progress
advanced p r = record {
  variable = r.variable;
  next = (r.variable + 1) % 65536;
  kind = r.kind;
  width = (width_before p r.variable + r.width) % 65536;
  bits = (p.bits + r.width) % 65536;
  pieces = (p.pieces + cond (is_new p r) 1 0) % 65536;
  free = (p.free + cond (is_new p r) r.width 0) % 65536;
}

-- The bits of a table's pattern and its fresh bits were counted, and each fresh piece has its start, from which on its width lies in the
-- fresh bits.
pub record Shaped (rows : List AnswerRow) (starts : List ℕ) (bits free : ℕ) : Type 0 where
  pub bits_are : bits ≡ pattern_bits rows
  pub free_are : free ≡ free_bits rows
  pub starts_are : (j : ℕ) → j < length rows → is_fresh (answer_row_at rows j) ≡ true
      → get_or starts (answer_row_at rows j).fresh 0 ≡ fresh_start rows (answer_row_at rows j).fresh
  pub pieces_in : (j : ℕ) → j < length rows → is_fresh (answer_row_at rows j) ≡ true
      → fresh_start rows (answer_row_at rows j).fresh + (answer_row_at rows j).width ≤ free_bits rows

-- Whether a table has the form, home and high bit of its rows aside: it is whole rows, and these are fine.
unfoldable pub rows_form : List ℕ → Bool
rows_form answer = eqb (length answer % answer_row_length) 0 && rows_fine [] (answer_rows_of answer)

-- What was found, and nothing at all for no form.
abbrev pub found_in : Option Found → Found
found_in found = unwrap_or found (record { bits = 0; free = 0 })

-- It was found whether a table's rows have the form, and for one whose rows have it, the counts and the starts.
pub record FormRead (answer starts : List ℕ) (found : Option Found) : Type 0 where
  pub fine_is : is_some found ≡ rows_form answer
  pub shaped : rows_form answer ≡ true → Shaped (answer_rows_of answer) starts (found_in found).bits (found_in found).free

-- What the test of the form promises, with room for as many fresh pieces as a pattern has bits.
abbrev pub ReadsForm : List ℕ → List ℕ → List ℕ → List ℕ → Option Found → Type 0
ReadsForm answer widths starts starts' found = 4096 ≤ length widths → 4096 ≤ length starts → FormRead answer starts' found

-- It was found whether a table has the form, and for one that has it, the counts and the starts.
pub record FormFound (answer starts : List ℕ) (found : Option Found) : Type 0 where
  pub fine_is : is_some found ≡ has_form answer
  pub shaped : has_form answer ≡ true → Shaped (answer_rows_of answer) starts (found_in found).bits (found_in found).free

-- What the reading of the form promises, with room for as many fresh pieces as a pattern has bits.
abbrev pub FindsForm : List ℕ → ℕ → List ℕ → Option Found → Type 0
FindsForm answer room starts' found = 4096 ≤ room → FormFound answer starts' found
