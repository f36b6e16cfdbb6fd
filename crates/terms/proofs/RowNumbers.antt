-- Rows as a table is written: how many numbers they are, and that these are read as the rows.
use mathlib.Core.Path.{◌≡◌, refl, ap}
use mathlib.Core.List.{List, [], ◌∷◌, ◌++◌}
use Prim.Native.Nat.{ℕ, ◌*◌}
use native.Mathlib.Omega.{arith}
use lib.ListN.{length}
use Rattle.terms.specs.declared.Row.{Row}
use Rattle.terms.specs.Table.{rows_of, row_numbers}

pub row_numbers_append : (xs ys : List Row) → row_numbers (xs ++ ys) ≡ row_numbers xs ++ row_numbers ys
unfolding row_numbers
row_numbers_append [] ys = refl
row_numbers_append (r ∷ xs) ys = ap (λ (l : List ℕ). r.kind ∷ r.a ∷ r.b ∷ r.c ∷ l) (row_numbers_append xs ys)

pub row_numbers_length : (rs : List Row) → length (row_numbers rs) ≡ length rs * 4
unfolding row_numbers
row_numbers_length [] = refl
row_numbers_length (r ∷ rs) = omega (arith, row_numbers_length rs)

-- a table written as numbers has its rows
pub rows_written : (rows : List Row) → rows_of (row_numbers rows) ≡ rows
unfolding rows_of row_numbers
rows_written [] = refl
rows_written (r ∷ rows) = ap (λ (l : List Row). r ∷ l) (rows_written rows)
