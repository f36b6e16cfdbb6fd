-- What the cursor's methods give, in the words of the definitions of sheets/specs/Text.antt: the cursor behind what was found is its place.
use Rattle.std.specs.Prelude.{List, ℕ, Option, Some, None}
use Rattle.terms.specs.declared.Row.{Row}
use Rattle.sheets.specs.declared.Order.{Order}
use Rattle.sheets.specs.Text.{NumberFound, NameFound, NamesFound, LineFound, decimal_at, field_at, ended_by, row_of_values, with_number}
use Rattle.sheets.specs.Text as text
use Rattle.scanner.specs.declared.Four.{Four}
use Rattle.cursor.specs.declared.Cursor.{Cursor}
use Rattle.cursor.specs.declared.Spellings.{Spellings}
use Rattle.cursor.specs.declared.Spellings.TheVariants.{Decimal, Any}

-- A number.
abbrev pub number_found : Option (ℕ × Cursor) → NumberFound
number_found (Some r) = text.Value r.0 r.1.at
number_found None = text.NoNumber

-- A column by its name.
abbrev pub name_found : Option (ℕ × Cursor) → NameFound
name_found (Some r) = text.Column r.0 r.1.at
name_found None = text.NoName

-- The line of names.
abbrev pub names_found : Option (Order × Cursor) → NamesFound
names_found (Some r) = text.InOrder r.0 r.1.at
names_found None = text.NoNames

-- A line of values.
abbrev pub line_found : Option (Row × Cursor) → LineFound
line_found (Some r) = text.Values r.0 r.1.at
line_found None = text.NoLine

-- The four values of a line, in the columns that the order of the names gives them.
abbrev pub four_found : Order → Option (Four × Cursor) → LineFound
four_found order (Some r) = text.Values (row_of_values order r.0.first r.0.second r.0.third r.0.fourth) r.1.at
four_found order None = text.NoLine

-- A decimal number and the byte behind it.
unfoldable pub decimal_field_at : List ℕ → ℕ → ℕ → NumberFound
decimal_field_at bytes at byte = ended_by bytes byte (decimal_at bytes at)

-- A line of values, all of them in decimal.
unfoldable pub decimal_line_at : List ℕ → Order → ℕ → LineFound
decimal_line_at bytes order at =
    with_number (decimal_field_at bytes at 32) λ v₁ at₁.
    with_number (decimal_field_at bytes at₁ 32) λ v₂ at₂.
    with_number (decimal_field_at bytes at₂ 32) λ v₃ at₃.
    with_number (decimal_field_at bytes at₃ 10) λ v₄ at₄. text.Values (row_of_values order v₁ v₂ v₃ v₄) at₄

-- The same in some spellings: in decimal, or in any.
abbrev pub field_read : Spellings → List ℕ → ℕ → ℕ → NumberFound
field_read Decimal bytes at byte = decimal_field_at bytes at byte
field_read Any bytes at byte = field_at bytes at byte

unfoldable pub line_read : Spellings → List ℕ → Order → ℕ → LineFound
line_read s bytes order at =
    with_number (field_read s bytes at 32) λ v₁ at₁.
    with_number (field_read s bytes at₁ 32) λ v₂ at₂.
    with_number (field_read s bytes at₂ 32) λ v₃ at₃.
    with_number (field_read s bytes at₃ 10) λ v₄ at₄. text.Values (row_of_values order v₁ v₂ v₃ v₄) at₄
