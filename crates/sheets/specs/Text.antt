-- What stands in a text at a place (document 01, "Sheet and program"; document 02, request (i)): a number, a name, a line. Each definition is
-- given the place and what is left of the text there, and says what is found and where it ends.
use Rattle.std.specs.Prelude.{Bool, ◌&&◌, ◌||◌, not, cond, List, [], ◌∷◌, ℕ, zero, suc, ◌+◌, ◌*◌, ◌-◌, ltb, eqb, length, get_or, drop}
use Rattle.terms.specs.declared.Row.{Row}
use Rattle.sheets.specs.declared.Order.{Order}

-- What is found at a place, with the place behind it: a number; a column by its name, 0 to 3 for kind, a, b and c; the line of names; a
-- line of values.
pub data NumberFound : Type 0 where
  Value : (number behind : ℕ) → NumberFound
  NoNumber : NumberFound

pub data NameFound : Type 0 where
  Column : (column behind : ℕ) → NameFound
  NoName : NameFound

pub data NamesFound : Type 0 where
  InOrder : (order : Order) (behind : ℕ) → NamesFound
  NoNames : NamesFound

pub data LineFound : Type 0 where
  Values : (row : Row) (behind : ℕ) → LineFound
  NoLine : LineFound

-- The value of a decimal digit, and 10 for any other byte.
unfoldable pub digit_of : ℕ → ℕ
digit_of byte = cond (ltb byte 48) 10 (cond (ltb 57 byte) 10 (byte - 48))

-- The value of a hexadecimal digit, 0 to 9 and a to f, and 16 for any other byte.
unfoldable pub hex_digit_of : ℕ → ℕ
hex_digit_of byte = cond (ltb (digit_of byte) 10) (digit_of byte) (cond (ltb byte 97) 16 (cond (ltb 102 byte) 16 (byte - 87)))

-- More digits of a number of which v has been read.
unfoldable pub more_digits : ℕ → ℕ → List ℕ → NumberFound
more_digits v at [] = Value v at
more_digits v at (byte ∷ text) =
    cond (ltb 9 (digit_of byte)) (Value v at)
    (cond (ltb 65535 (v * 10 + digit_of byte)) NoNumber (more_digits (v * 10 + digit_of byte) (at + 1) text))

-- A 0 has no digit behind it.
unfoldable pub after_zero : ℕ → List ℕ → NumberFound
after_zero at [] = Value 0 at
after_zero at (byte ∷ text) = cond (ltb 9 (digit_of byte)) (Value 0 at) NoNumber

-- A number in decimal, 0 to 65,535, without leading zeros.
unfoldable pub decimal_here : ℕ → List ℕ → NumberFound
decimal_here at [] = NoNumber
decimal_here at (byte ∷ text) =
    cond (ltb 9 (digit_of byte)) NoNumber
    (cond (eqb (digit_of byte) 0) (after_zero (at + 1) text) (more_digits (digit_of byte) (at + 1) text))

abbrev pub decimal_at : List ℕ → ℕ → NumberFound
decimal_at text at = decimal_here at (drop at text)

-- At most m more hexadecimal digits of a number of which v has been read.
unfoldable pub more_hex_digits : ℕ → ℕ → ℕ → List ℕ → NumberFound
more_hex_digits m v at [] = Value v at
more_hex_digits zero v at (byte ∷ text) = cond (ltb 15 (hex_digit_of byte)) (Value v at) NoNumber
more_hex_digits (suc m) v at (byte ∷ text) =
    cond (ltb 15 (hex_digit_of byte)) (Value v at) (more_hex_digits m (v * 16 + hex_digit_of byte) (at + 1) text)

-- A number in hexadecimal: one to four digits.
unfoldable pub hexadecimal_here : ℕ → List ℕ → NumberFound
hexadecimal_here at [] = NoNumber
hexadecimal_here at (byte ∷ text) = cond (ltb 15 (hex_digit_of byte)) NoNumber (more_hex_digits 3 (hex_digit_of byte) (at + 1) text)

abbrev pub hexadecimal_at : List ℕ → ℕ → NumberFound
hexadecimal_at text at = hexadecimal_here at (drop at text)

-- A value: the letter h, which is byte 104, and a number in hexadecimal; or a number in decimal.
unfoldable pub number_here : ℕ → List ℕ → NumberFound
number_here at [] = NoNumber
number_here at (byte ∷ text) = cond (eqb byte 104) (hexadecimal_here (at + 1) text) (decimal_here at (byte ∷ text))

abbrev pub number_at : List ℕ → ℕ → NumberFound
number_at text at = number_here at (drop at text)

-- Whether a byte stands at a place.
unfoldable pub sees : List ℕ → ℕ → ℕ → Bool
sees text at byte = ltb at (length text) && eqb (get_or text at 0) byte

abbrev pub ended_by : List ℕ → ℕ → NumberFound → NumberFound
ended_by text byte (Value v at) = cond (sees text at byte) (Value v (at + 1)) NoNumber
ended_by text byte NoNumber = NoNumber

-- A number and the byte behind it.
unfoldable pub field_at : List ℕ → ℕ → ℕ → NumberFound
field_at text at byte = ended_by text byte (number_at text at)

-- The value for one column, where the names' order says which column each value is of.
unfoldable pub value_for : Order → ℕ → ℕ → ℕ → ℕ → ℕ → ℕ
value_for order column v₁ v₂ v₃ v₄ =
    cond (eqb order.first column) v₁ (cond (eqb order.second column) v₂ (cond (eqb order.third column) v₃ v₄))

-- The row that four values are.
unfoldable pub row_of_values : Order → ℕ → ℕ → ℕ → ℕ → Row
row_of_values order v₁ v₂ v₃ v₄ =
    record {
      kind = value_for order 0 v₁ v₂ v₃ v₄;
      a = value_for order 1 v₁ v₂ v₃ v₄;
      b = value_for order 2 v₁ v₂ v₃ v₄;
      c = value_for order 3 v₁ v₂ v₃ v₄;
    }

-- What follows a number, if there is one.
abbrev pub with_number : NumberFound → (ℕ → ℕ → LineFound) → LineFound
with_number (Value v at) next = next v at
with_number NoNumber next = NoLine

-- A line of values: four numbers, one space between them, byte 10 at the end.
unfoldable pub line_at : List ℕ → Order → ℕ → LineFound
line_at text order at =
    with_number (field_at text at 32) λ v₁ at₁.
    with_number (field_at text at₁ 32) λ v₂ at₂.
    with_number (field_at text at₂ 32) λ v₃ at₃.
    with_number (field_at text at₃ 10) λ v₄ at₄. Values (row_of_values order v₁ v₂ v₃ v₄) at₄

-- Whether the bytes of "kind" stand at a place.
unfoldable pub sees_kind : List ℕ → ℕ → Bool
sees_kind text at = sees text at 107 && (sees text (at + 1) 105 && (sees text (at + 2) 110 && sees text (at + 3) 100))

-- The column that is named at a place: a, b, c or kind.
unfoldable pub column_at : List ℕ → ℕ → NameFound
column_at text at =
    cond (sees text at 97) (Column 1 (at + 1))
    (cond (sees text at 98) (Column 2 (at + 1))
    (cond (sees text at 99) (Column 3 (at + 1))
    (cond (sees_kind text at) (Column 0 (at + 4))
    NoName)))

-- A name and the byte behind it.
abbrev pub named_by : List ℕ → ℕ → NameFound → NameFound
named_by text byte (Column n at) = cond (sees text at byte) (Column n (at + 1)) NoName
named_by text byte NoName = NoName

unfoldable pub name_at : List ℕ → ℕ → ℕ → NameFound
name_at text at byte = named_by text byte (column_at text at)

-- What follows a name, if there is one.
abbrev pub with_name : NameFound → (ℕ → ℕ → NamesFound) → NamesFound
with_name (Column n at) next = next n at
with_name NoName next = NoNames

unfoldable pub all_different : ℕ → ℕ → ℕ → ℕ → Bool
all_different a b c d = not (eqb a b || eqb a c || eqb a d || eqb b c || eqb b d || eqb c d)

-- The line of names: the four names, each once, one space between them, byte 10 at the end.
unfoldable pub names_at : List ℕ → ℕ → NamesFound
names_at text at =
    with_name (name_at text at 32) λ n₁ at₁.
    with_name (name_at text at₁ 32) λ n₂ at₂.
    with_name (name_at text at₂ 32) λ n₃ at₃.
    with_name (name_at text at₃ 10) λ n₄ at₄.
    cond (all_different n₁ n₂ n₃ n₄) (InOrder (record { first = n₁; second = n₂; third = n₃; fourth = n₄ }) at₄) NoNames
