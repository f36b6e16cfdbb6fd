-- What the theorems on values are stated with (proofs/Equations.antt, Markers.antt, FilledSides.antt): tables none of whose rows breaks a rule, and rows that are
-- a fill, a concatenation (join), an extraction (cut), a value or an equation.
use Rattle.std.specs.Prelude.{◌≡◌, true, List, ℕ, ◌<◌, length}
use Rattle.terms.specs.declared.Row.{Row}
use Rattle.terms.specs.Table.{row_at}
use Rattle.terms.specs.Faults.{is_accepted, fault_at}

-- The first r rows break no rule, and all rows.
abbrev pub Passed : List Row → ℕ → Type 0
Passed t r = (i : ℕ) → i < r → is_accepted (fault_at t i) ≡ true

abbrev pub Sound : List Row → Type 0
Sound t = Passed t (length t)

-- Row r of the table is a fill of the bit x that is w wide.
pub record IsFill (t : List Row) (r x w : ℕ) : Type 0 where
  pub in_table : r < length t
  pub is_fill : (row_at t r).kind ≡ 1
  pub bit_is : (row_at t r).a ≡ x
  pub width_is : (row_at t r).b ≡ w

-- Row r of the table is the number a, a value that is w wide.
pub record IsValue (t : List Row) (r a w : ℕ) : Type 0 where
  pub in_table : r < length t
  pub is_value : (row_at t r).kind ≡ 5
  pub number_is : (row_at t r).a ≡ a
  pub width_is : (row_at t r).b ≡ w

-- Row r of the table is the concatenation a ⊗ b.
pub record IsConcat (t : List Row) (r a b : ℕ) : Type 0 where
  pub in_table : r < length t
  pub is_concat : (row_at t r).kind ≡ 2
  pub left_is : (row_at t r).a ≡ a
  pub right_is : (row_at t r).b ≡ b

-- Row r of the table is the extraction a ^ (high, low).
pub record IsExtract (t : List Row) (r a high low : ℕ) : Type 0 where
  pub in_table : r < length t
  pub is_extract : (row_at t r).kind ≡ 3
  pub word_is : (row_at t r).a ≡ a
  pub high_is : (row_at t r).b ≡ high
  pub low_is : (row_at t r).c ≡ low

-- Row r of the table is the equation of a and b.
pub record IsEquation (t : List Row) (r a b : ℕ) : Type 0 where
  pub in_table : r < length t
  pub is_equation : (row_at t r).kind ≡ 4
  pub left_is : (row_at t r).a ≡ a
  pub right_is : (row_at t r).b ≡ b
