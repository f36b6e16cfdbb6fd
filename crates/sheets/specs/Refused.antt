-- What reading finds of a text, by the writing alone (document 01, "Where a call stops", 20 to 23): for each answer the texts that it is given for.
-- Assumes nothing.
use Rattle.std.specs.Prelude.{◌≡◌, List, ◌++◌, ℕ, ◌<◌, ◌≤◌, length, Result, Ok, Err}
use Rattle.terms.specs.declared.Row.{Row}
use Rattle.sheets.specs.declared.Order.{Order}
use Rattle.sheets.specs.declared.SheetError.{SheetError}
use Rattle.sheets.specs.declared.SheetError.TheVariants.{TooLong, WrongNames, TooMany, WrongLine}
use Rattle.sheets.specs.Writing.{Spelling, names_line, line_in, IsOrder, SmallRow, LinesOf, SheetOf}

-- A text begins with these bytes, whatever stands behind them.
pub record Begins (bytes text : List ℕ) : Type 0 where
  pub rest : List ℕ
  pub split : text ≡ bytes ++ rest

-- The names line is otherwise than it should be: in none of the 24 orders does the line of names begin the text.
abbrev pub NamesOtherwise : List ℕ → Type 0
NamesOtherwise text = (order : Order) → IsOrder order → Begins (names_line order) text → ⊥

-- The next line of values is otherwise than it should be: no good line, which is one of four numbers up to 65,535 in any spelling, begins
-- what is left.
abbrev pub LineOtherwise : Order → List ℕ → Type 0
LineOtherwise order left = (spelling : Spelling) (row : Row) → SmallRow row → Begins (line_in order spelling row) left → ⊥

-- The names in this order, then k good lines, and then something is left.
pub record GoodLines (k : ℕ) (order : Order) (left text : List ℕ) : Type 0 where
  pub order_is : IsOrder order
  pub rows : List Row
  pub lines : List ℕ
  pub lines_of : LinesOf order rows lines
  pub count : length rows ≡ k
  pub more : 1 ≤ length left
  pub written : text ≡ names_line order ++ lines ++ left

-- Line k, the first being 0, is one of the first 512 and the first that is otherwise than it should be.
pub record WrongLineAt (k : ℕ) (text : List ℕ) : Type 0 where
  pub order : Order
  pub left : List ℕ
  pub lines : GoodLines k order left text
  pub below : k < 512
  pub otherwise : LineOtherwise order left

-- Behind 512 good lines there is a 513th, whatever it is.
pub record LinesOver (text : List ℕ) : Type 0 where
  pub order : Order
  pub left : List ℕ
  pub lines : GoodLines 512 order left text

-- A sheet of n rows.
pub record SheetOfLength (n : ℕ) (text : List ℕ) : Type 0 where
  pub rows : List Row
  pub count : length rows ≡ n
  pub sheet : SheetOf text rows

-- The texts for which each answer is given: 20, 21, 22 at row k, 23, or n rows read.
abbrev pub FoundAs : Result ℕ SheetError → List ℕ → Type 0
FoundAs (Err TooLong) text = 16384 < length text
FoundAs (Err WrongNames) text = (length text ≤ 16384) × NamesOtherwise text
FoundAs (Err (WrongLine k)) text = (length text ≤ 16384) × WrongLineAt k text
FoundAs (Err TooMany) text = (length text ≤ 16384) × LinesOver text
FoundAs (Ok n) text = SheetOfLength n text

-- A text for which one of these answers is given, and no other.
pub record OneAnswer (text : List ℕ) : Type 0 where
  pub answer : Result ℕ SheetError
  pub given : FoundAs answer text
  pub only : (other : Result ℕ SheetError) → FoundAs other text → other ≡ answer
