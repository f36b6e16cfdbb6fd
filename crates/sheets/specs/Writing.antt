-- How a sheet is written (document 01, "Sheet and program"; document 02, request (i)), so that reading can be compared with it: the bytes of
-- a number, of a name, of a line and of a whole sheet, in decimal and in any spelling of the numbers. Assumes nothing.
use Rattle.std.specs.Prelude.{◌≡◌, Bool, true, ◌&&◌, cond, List, [], ◌∷◌, ◌++◌, ℕ, zero, suc, ◌+◌, ◌/◌, ◌%◌, ◌^◌, ◌≤◌, ◌<◌, ltb, length}
use Rattle.terms.specs.declared.Row.{Row}
use Rattle.sheets.specs.declared.Order.{Order}
use Rattle.sheets.specs.Text.{all_different}

-- A number in decimal without leading zeros, where at most so many digits are written.
unfoldable pub digits : ℕ → ℕ → List ℕ
digits zero n = []
digits (suc most) n = cond (ltb n 10) ((48 + n) ∷ []) (digits most (n / 10) ++ ((48 + n % 10) ∷ []))

-- A number up to 65,535 in decimal without leading zeros.
unfoldable pub decimal : ℕ → List ℕ
decimal n = digits 5 n

-- A hexadecimal digit: 0 to 9, a to f.
unfoldable pub hex_digit : ℕ → ℕ
hex_digit d = cond (ltb d 10) (48 + d) (87 + d)

-- The last k hexadecimal digits of a number, leading zeros among them.
unfoldable pub hex_digits : ℕ → ℕ → List ℕ
hex_digits zero n = []
hex_digits (suc k) n = hex_digits k (n / 16) ++ (hex_digit (n % 16) ∷ [])

-- Whether k is 1 to 4, and a number has room in k hexadecimal digits.
unfoldable pub has_room : ℕ → ℕ → Bool
has_room k n = ltb 0 k && (ltb k 5 && ltb n (16 ^ k))

-- A number up to 65,535 in one of its spellings: 1 to 4 are the letter h and so many hexadecimal digits, where it has room in them; every
-- other is decimal.
unfoldable pub spelled : ℕ → ℕ → List ℕ
spelled k n = cond (has_room k n) (104 ∷ hex_digits k n) (decimal n)

-- The name of a column: kind, a, b, c.
unfoldable pub name_bytes : ℕ → List ℕ
name_bytes zero = 107 ∷ 105 ∷ 110 ∷ 100 ∷ []
name_bytes (suc zero) = 97 ∷ []
name_bytes (suc (suc zero)) = 98 ∷ []
name_bytes (suc (suc (suc n))) = 99 ∷ []

-- The number that a row has in a column.
unfoldable pub column : Row → ℕ → ℕ
column row zero = row.kind
column row (suc zero) = row.a
column row (suc (suc zero)) = row.b
column row (suc (suc (suc n))) = row.c

-- A name and a value in decimal, each with the byte behind it.
unfoldable pub name : ℕ → ℕ → List ℕ
name n byte = name_bytes n ++ (byte ∷ [])

unfoldable pub value : ℕ → ℕ → List ℕ
value v byte = decimal v ++ (byte ∷ [])

-- The line of names: one space between them, byte 10 at the end.
unfoldable pub names_line : Order → List ℕ
names_line order = name order.first 32 ++ name order.second 32 ++ name order.third 32 ++ name order.fourth 10

-- A line of values in decimal, in the order of the names.
unfoldable pub values_line : Order → Row → List ℕ
values_line order row =
    value (column row order.first) 32 ++ value (column row order.second) 32 ++ value (column row order.third) 32
    ++ value (column row order.fourth) 10

-- The lines of the rows in decimal, and the whole sheet.
unfoldable pub lines_text : Order → List Row → List ℕ
lines_text order [] = []
lines_text order (row ∷ rows) = values_line order row ++ lines_text order rows

unfoldable pub sheet_text : Order → List Row → List ℕ
sheet_text order rows = names_line order ++ lines_text order rows

-- How the first, second, third and fourth number of a line are spelled.
pub record Spelling : Type 0 where
  pub first : ℕ
  pub second : ℕ
  pub third : ℕ
  pub fourth : ℕ

-- A value and a line of values in a spelling.
unfoldable pub value_in : ℕ → ℕ → ℕ → List ℕ
value_in spelling v byte = spelled spelling v ++ (byte ∷ [])

unfoldable pub line_in : Order → Spelling → Row → List ℕ
line_in order spelling row =
    value_in spelling.first (column row order.first) 32 ++ value_in spelling.second (column row order.second) 32
    ++ value_in spelling.third (column row order.third) 32 ++ value_in spelling.fourth (column row order.fourth) 10

-- One of the 24 orders of the names: each of the four columns once.
pub record IsOrder (order : Order) : Type 0 where
  pub first_is : order.first < 4
  pub second_is : order.second < 4
  pub third_is : order.third < 4
  pub fourth_is : order.fourth < 4
  pub different : all_different order.first order.second order.third order.fourth ≡ true

-- Rows of numbers up to 65,535.
pub record SmallRow (row : Row) : Type 0 where
  pub kind_small : row.kind ≤ 65535
  pub a_small : row.a ≤ 65535
  pub b_small : row.b ≤ 65535
  pub c_small : row.c ≤ 65535

pub data SmallRows : List Row → Type 0 where
  none : SmallRows []
  one : {row : Row} {rows : List Row} → SmallRow row → SmallRows rows → SmallRows (row ∷ rows)

-- The writings of rows of numbers up to 65,535: for each row a line, in some spelling of each number.
pub data LinesOf (order : Order) : List Row → List ℕ → Type 0 where
  no_lines : LinesOf order [] []
  one_line : {row : Row} {rows : List Row} {lines : List ℕ} (spelling : Spelling) → SmallRow row → LinesOf order rows lines
      → LinesOf order (row ∷ rows) (line_in order spelling row ++ lines)

-- A text that is a writing, in one of the 24 orders of the names and some spelling of each number, of at most 512 rows of numbers up to
-- 65,535, and has at most 16,384 bytes.
pub record SheetOf (text : List ℕ) (rows : List Row) : Type 0 where
  pub order : Order
  pub order_is : IsOrder order
  pub lines : List ℕ
  pub lines_of : LinesOf order rows lines
  pub few : length rows ≤ 512
  pub short : length text ≤ 16384
  pub written : text ≡ names_line order ++ lines
