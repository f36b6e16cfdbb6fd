-- What the functions over home and high bit of an answer's rows compute and promise.
use Rattle.std.specs.Prelude.{◌≡◌, Bool, true, false, ◌&&◌, cond, List, ℕ, ◌+◌, ◌*◌, ◌%◌, ◌≤◌, ◌<◌, eqb, ltb, length, get_or, set}
use Rattle.laws.specs.Buffers.{overwrite, set_four}
use Rattle.answers.specs.declared.AnswerRow.{AnswerRow}
use Rattle.answers.specs.Answer.{answer_row_at, is_fresh, high_bit, home_row, answer_numbers, answer_rows_of}
use Rattle.answers.specs.inner.FourNumbers.{four_numbers, answer_columns}
use Rattle.answers.specs.inner.Orderly.{Orderly}

-- The width of a row's variable from the row on, from that of the last row's variable behind it.
unfoldable pub width_on : ℕ → ℕ → AnswerRow → ℕ
width_on passed variable r = cond (eqb r.variable variable) ((passed + r.width) % 65536) r.width

-- An answer table with row i written, with its own place.
unfoldable pub row_put : List ℕ → ℕ → AnswerRow → ℕ → List ℕ
row_put t i r high = set (set (set_four t (i * 6) r.variable r.kind r.width r.fresh) (i * 6 + 4) r.variable) (i * 6 + 5) high

-- Rows stand in an answer table, each with variable and highest bit of the row that g gives; behind them is the old content.
pub record Standing (rows : List AnswerRow) (g : ℕ → ℕ) (old t : List ℕ) : Type 0 where
  pub len : length t ≡ length old
  pub rows_are : (j : ℕ) → j < length rows → answer_columns t (j * 6) ≡ answer_row_at rows j
  pub homes_are : (j : ℕ) → j < length rows → get_or t (j * 6 + 4) 0 ≡ (answer_row_at rows (g j)).variable
  pub highs_are : (j : ℕ) → j < length rows → get_or t (j * 6 + 5) 0 ≡ high_bit rows (g j)
  pub behind : (x : ℕ) → length rows * 6 ≤ x → get_or t x 0 ≡ get_or old x 0

-- What the widening of n rows promises: each has its own place.
abbrev pub Widens : ℕ → List ℕ → List ℕ → Type 0
Widens n t t' =
    (rows : List AnswerRow) → n ≡ length rows → Orderly rows → n * 6 ≤ length t → ((j : ℕ) → j < n → answer_columns t (j * 4) ≡ answer_row_at rows j)
    → Standing rows (λ j. j) t t'

-- The row where the piece of row i first appears, from the first rows of the fresh pieces.
unfoldable pub home_in : List ℕ → AnswerRow → ℕ → ℕ
home_in firsts r i = cond (ltb r.kind 2) i (get_or firsts r.fresh 0)

-- An answer table with home and high bit of one row copied to another.
unfoldable pub home_copied : List ℕ → ℕ → ℕ → List ℕ
home_copied t from to = set (set t (to * 6 + 4) (get_or t (from * 6 + 4) 0)) (to * 6 + 5) (get_or t (from * 6 + 5) 0)

-- Whether row i is of fresh piece n; and that it is the first of it.
abbrev pub of_piece : List AnswerRow → ℕ → ℕ → Bool
of_piece rows n i = is_fresh (answer_row_at rows i) && eqb (answer_row_at rows i).fresh n

pub record First (rows : List AnswerRow) (n i : ℕ) : Type 0 where
  pub is_row : of_piece rows n i ≡ true
  pub none_before : (k : ℕ) → k < i → of_piece rows n k ≡ false

-- The rows before row j were passed: the numbers of their fresh pieces are those below `seen`, and the first row of each is marked.
pub record Seen (rows : List AnswerRow) (firsts : List ℕ) (seen j : ℕ) : Type 0 where
  pub most : seen ≤ j
  pub marked : (n : ℕ) → n < seen → First rows n (get_or firsts n 0)
  pub passed : (i : ℕ) → i < j → is_fresh (answer_row_at rows i) ≡ true → (answer_row_at rows i).fresh < seen

-- The row whose place row j has, with the rows before row i set; and what is known when they are.
unfoldable pub homed_to : List AnswerRow → ℕ → ℕ → ℕ
homed_to rows i j = cond (ltb j i) (home_row rows j) j

pub record Homed (rows : List AnswerRow) (old t firsts : List ℕ) (seen i : ℕ) : Type 0 where
  pub seen_are : Seen rows firsts seen i
  pub standing : Standing rows (homed_to rows i) old t

-- What the setting of one row's home promises.
abbrev pub SetsHome : AnswerRow → ℕ → ℕ → List ℕ → List ℕ → List ℕ → List ℕ → ℕ → Type 0
SetsHome r i seen t t' firsts firsts' seen' =
    (rows : List AnswerRow) (old : List ℕ) → Orderly rows → r ≡ answer_row_at rows i → i < length rows → length rows * 6 ≤ length t → length rows ≤ length firsts
    → Homed rows old t firsts seen i → Homed rows old t' firsts' seen' (i + 1)

-- What the setting of homes promises, with room for the first row of each fresh piece.
abbrev pub SetsHomes : ℕ → List ℕ → List ℕ → ℕ → Type 0
SetsHomes n t t' room =
    (rows : List AnswerRow) (old : List ℕ) → n ≡ length rows → Orderly rows → n * 6 ≤ length t → n ≤ room → Standing rows (λ j. j) old t
    → Standing rows (home_row rows) old t'

-- Both together: the own four numbers of each row become its six.
abbrev pub PutsHomes : ℕ → List ℕ → List ℕ → ℕ → Type 0
PutsHomes n t t' room =
    (rows : List AnswerRow) (old : List ℕ) → n ≡ length rows → Orderly rows → n * 6 ≤ length old → n ≤ room → t ≡ overwrite (four_numbers rows) old
    → t' ≡ overwrite (answer_numbers rows) old

-- What the marking of one row promises.
abbrev pub MarksFirst : AnswerRow → ℕ → ℕ → List ℕ → List ℕ → ℕ → Type 0
MarksFirst r i seen firsts firsts' seen' =
    (rows : List AnswerRow) → Orderly rows → r ≡ answer_row_at rows i → i < length rows → length rows ≤ length firsts → Seen rows firsts seen i
    → Seen rows firsts' seen' (i + 1)

-- What the marking of the first rows promises: they are the homes of the rows with a fresh piece.
abbrev pub MarksFirsts : ℕ → List ℕ → ℕ → List ℕ → Type 0
MarksFirsts n t room firsts' =
    n ≡ length (answer_rows_of t) → Orderly (answer_rows_of t) → n ≤ room
    → (j : ℕ) → j < n → home_in firsts' (answer_row_at (answer_rows_of t) j) j ≡ home_row (answer_rows_of t) j

-- Whether home and high bit of row i are these, if its piece first appears there, or else those of the row where it does.
unfoldable pub home_fine : List ℕ → ℕ → ℕ → ℕ → ℕ → Bool
home_fine t variable high from i =
    cond (eqb from i)
    (eqb (get_or t (i * 6 + 4) 0) variable && eqb (get_or t (i * 6 + 5) 0) high)
    (eqb (get_or t (i * 6 + 4) 0) (get_or t (from * 6 + 4) 0) && eqb (get_or t (i * 6 + 5) 0) (get_or t (from * 6 + 5) 0))

-- Home and high bit of each row are right.
pub record Right (rows : List AnswerRow) (t : List ℕ) : Type 0 where
  pub homes_are : (j : ℕ) → j < length rows → get_or t (j * 6 + 4) 0 ≡ (answer_row_at rows (home_row rows j)).variable
  pub highs_are : (j : ℕ) → j < length rows → get_or t (j * 6 + 5) 0 ≡ high_bit rows (home_row rows j)

-- A test tells whether they are.
pub record TellsRight (rows : List AnswerRow) (t : List ℕ) (b : Bool) : Type 0 where
  pub only_right : b ≡ true → Right rows t
  pub all_right : Right rows t → b ≡ true

-- What the tests of homes promise, where the first rows are marked, and with room for these.
abbrev pub TestsRows : ℕ → List ℕ → List ℕ → Bool → Type 0
TestsRows n t firsts b =
    n ≡ length (answer_rows_of t) → Orderly (answer_rows_of t)
    → ((j : ℕ) → j < n → home_in firsts (answer_row_at (answer_rows_of t) j) j ≡ home_row (answer_rows_of t) j) → TellsRight (answer_rows_of t) t b

abbrev pub TestsHomes : List ℕ → ℕ → Bool → Type 0
TestsHomes t room b = Orderly (answer_rows_of t) → 4096 ≤ room → TellsRight (answer_rows_of t) t b
