-- The rows of a run of numbers: how many there are, and where each one's columns stand.
use mathlib.Core.Path.{◌≡◌, refl, sym, ◌∙◌}
use mathlib.Core.List.{List, [], ◌∷◌}
use Prim.Native.Nat.{ℕ, zero, suc, ◌+◌, ◌*◌, ◌/◌, ◌<◌, ◌≤◌}
use native.Mathlib.Omega.{arith}
use lib.ListN.{length, get_or, get_or-eq_default}
use Rattle.terms.specs.declared.Row.{Row}
use Rattle.terms.specs.Table.{rows_of, row_at, no_row}

pub rows_length : (t : List ℕ) → length (rows_of t) ≡ length t / 4
unfolding rows_of
rows_length [] = refl
rows_length (k ∷ []) = refl
rows_length (k ∷ a ∷ []) = refl
rows_length (k ∷ a ∷ b ∷ []) = refl
rows_length (k ∷ a ∷ b ∷ c ∷ t) = omega (arith, rows_length t)

-- the row whose columns are the four numbers at place i
abbrev pub columns_at : List ℕ → ℕ → Row
columns_at t i = record { kind = get_or t i 0; a = get_or t (i + 1) 0; b = get_or t (i + 2) 0; c = get_or t (i + 3) 0 }

columns_skip : (k a b c : ℕ) (t : List ℕ) (r : ℕ) → columns_at t (r * 4) ≡ columns_at (k ∷ a ∷ b ∷ c ∷ t) (suc r * 4)
columns_skip k a b c t r =
    let e₀ : suc r * 4 ≡ suc (suc (suc (suc (r * 4)))) = omega arith in
    let e₁ : suc r * 4 + 1 ≡ suc (suc (suc (suc (r * 4 + 1)))) = omega arith in
    let e₂ : suc r * 4 + 2 ≡ suc (suc (suc (suc (r * 4 + 2)))) = omega arith in
    let e₃ : suc r * 4 + 3 ≡ suc (suc (suc (suc (r * 4 + 3)))) = omega arith in
    rw (e₁, e₂, e₃, e₀)

pub row_columns : (t : List ℕ) (r : ℕ) → r < length t / 4 → columns_at t (r * 4) ≡ row_at (rows_of t) r
unfolding rows_of
row_columns [] r h = absurd (omega arith)
row_columns (k ∷ []) r h = absurd (omega arith)
row_columns (k ∷ a ∷ []) r h = absurd (omega arith)
row_columns (k ∷ a ∷ b ∷ []) r h = absurd (omega arith)
row_columns (k ∷ a ∷ b ∷ c ∷ t) zero h = refl
row_columns (k ∷ a ∷ b ∷ c ∷ t) (suc r) h = sym (columns_skip k a b c t r) ∙ row_columns t r (omega arith)

pub row_past : (t : List ℕ) (r : ℕ) → length t / 4 ≤ r → no_row ≡ row_at (rows_of t) r
row_past t r h = sym (get_or-eq_default (rows_of t) no_row (omega (arith, rows_length t)))
