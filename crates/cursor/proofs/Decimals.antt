-- Where the four values of a line are decimal, the line in any spelling is the same. Assumes nothing.
use mathlib.Core.Path.{◌≡◌, refl}
use mathlib.Core.List.{List}
use Prim.Native.Nat.{ℕ}
use native.Mathlib.Omega.{arith}
use lib.ListN.{drop}
use Rattle.terms.specs.declared.Row.{Row}
use Rattle.sheets.specs.declared.Order.{Order}
use Rattle.sheets.specs.Text.{NumberFound, LineFound, Value, NoNumber, Values, decimal_at, number_at, field_at, ended_by, with_number, line_at}
use Rattle.sheets.proofs.Spelled.{number_decimal}
use Rattle.cursor.specs.inner.Found.{decimal_field_at, decimal_line_at}

-- a field that is found in decimal is the field in any spelling
pub decimal-field : (bytes : List ℕ) (at byte v to : ℕ) → decimal_field_at bytes at byte ≡ Value v to → field_at bytes at byte ≡ Value v to
unfolding decimal_field_at field_at
decimal-field bytes at byte v to e = go (decimal_at bytes at) refl e
  where
    go : (x : NumberFound) → decimal_at bytes at ≡ x → ended_by bytes byte x ≡ Value v to → ended_by bytes byte (number_at bytes at) ≡ Value v to
    go (Value n behind) p e = rw (number_decimal at (drop at bytes) n behind p) e
    go NoNumber p e = let z : ◌≡◌ {A = ℕ} 0 1 = cc in absurd (omega arith)

-- what follows a field that is found in decimal follows the field in any spelling
with_decimal : (bytes : List ℕ) (at byte : ℕ) (f g : ℕ → ℕ → LineFound) (row : Row) (to : ℕ)
    → ((v behind : ℕ) → f v behind ≡ Values row to → g v behind ≡ Values row to)
    → with_number (decimal_field_at bytes at byte) f ≡ Values row to → with_number (field_at bytes at byte) g ≡ Values row to
with_decimal bytes at byte f g row to next e = go (decimal_field_at bytes at byte) refl e
  where
    go : (x : NumberFound) → decimal_field_at bytes at byte ≡ x → with_number x f ≡ Values row to → with_number (field_at bytes at byte) g ≡ Values row to
    go (Value v behind) p e = rw (decimal-field bytes at byte v behind p) (next v behind e)
    go NoNumber p e = let z : ◌≡◌ {A = ℕ} 0 1 = cc in absurd (omega arith)

-- a line that is found in decimal is the line in any spelling
pub decimal-line : (bytes : List ℕ) (order : Order) (at : ℕ) (row : Row) (to : ℕ) → decimal_line_at bytes order at ≡ Values row to
    → line_at bytes order at ≡ Values row to
unfolding decimal_line_at line_at
decimal-line bytes order at row to =
    with_decimal bytes at 32 _ _ row to λ v₁ at₁.
    with_decimal bytes at₁ 32 _ _ row to λ v₂ at₂.
    with_decimal bytes at₂ 32 _ _ row to λ v₃ at₃.
    with_decimal bytes at₃ 10 _ _ row to λ v₄ at₄ e. e
