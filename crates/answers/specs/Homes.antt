-- What the theorems say of the home of a piece (document 02, (vi); proofs/Homes.antt), for all rows.
use Rattle.std.specs.Prelude.{◌≡◌, true, false, cond, List, [], ◌∷◌, ◌++◌, ℕ, ◌+◌, ◌-◌, ◌≤◌, ◌<◌, eqb, length}
use Rattle.terms.specs.Table.{extract}
use Rattle.answers.specs.declared.AnswerRow.{AnswerRow}
use Rattle.answers.specs.Answer.{answer_row_at, is_fresh, fresh_pieces, fresh_width, free_bits, row_bits, instantiate, high_bit, home_row, answer_numbers, answer_rows_of}

-- The home row of a fresh row is a row of its fresh piece, and no row before that is one. A first appearance and a fill are their own home.
pub record FirstPlaces (rows : List AnswerRow) : Type 0 where
  pub home_fresh : (j : ℕ) → is_fresh (answer_row_at rows j) ≡ true → is_fresh (answer_row_at rows (home_row rows j)) ≡ true
  pub home_number : (j : ℕ) → is_fresh (answer_row_at rows j) ≡ true → (answer_row_at rows (home_row rows j)).fresh ≡ (answer_row_at rows j).fresh
  pub none_before : (j i : ℕ) → is_fresh (answer_row_at rows j) ≡ true → i < home_row rows j
      → is_fresh (answer_row_at rows i) ≡ true → (answer_row_at rows i).fresh ≡ (answer_row_at rows j).fresh → ⊥
  pub first_own : (j : ℕ) → is_fresh (answer_row_at rows j) ≡ true
      → ((i : ℕ) → i < j → is_fresh (answer_row_at rows i) ≡ true → (answer_row_at rows i).fresh ≡ (answer_row_at rows j).fresh → ⊥) → home_row rows j ≡ j
  pub fill_own : (j : ℕ) → is_fresh (answer_row_at rows j) ≡ false → home_row rows j ≡ j

-- Rows whose fresh pieces have one width each, and enough fresh bits f for every row.
pub record WholePieces (rows : List AnswerRow) (f : List ℕ) : Type 0 where
  pub one_width : (j : ℕ) → j < length rows → is_fresh (answer_row_at rows j) ≡ true → fresh_width rows (answer_row_at rows j).fresh ≡ (answer_row_at rows j).width
  pub enough : (j : ℕ) → j < length rows → length (row_bits rows f (answer_row_at rows j)) ≡ (answer_row_at rows j).width
  pub wide : (j : ℕ) → j < length rows → 1 ≤ (answer_row_at rows j).width

-- The bits of variable v: those of its rows, in their order.
unfoldable pub side_bits_of : List AnswerRow → List ℕ → ℕ → List AnswerRow → List ℕ
side_bits_of rows f v [] = []
side_bits_of rows f v (r ∷ rs) = cond (eqb r.variable v) (row_bits rows f r) [] ++ side_bits_of rows f v rs

-- The home has the piece: the bits of row j are the bits high down to high - width + 1 of the variable of its home row.
abbrev pub HomeHasBits : List AnswerRow → List ℕ → ℕ → Type 0
HomeHasBits rows f j =
    row_bits rows f (answer_row_at rows j)
    ≡ extract (side_bits_of rows f (answer_row_at rows (home_row rows j)).variable rows)
    (high_bit rows (home_row rows j))
    (high_bit rows (home_row rows j) + 1 - (answer_row_at rows j).width)

-- The solutions are untouched: what is read back from the numbers of rows gives the same patterns, with the same fresh pieces and bits.
pub record Untouched (rows : List AnswerRow) : Type 0 where
  pub patterns : (f : List ℕ) → instantiate (answer_rows_of (answer_numbers rows)) f ≡ instantiate rows f
  pub bits : free_bits (answer_rows_of (answer_numbers rows)) ≡ free_bits rows
  pub pieces : fresh_pieces (answer_rows_of (answer_numbers rows)) ≡ fresh_pieces rows
