-- The numbers of a row from its home row; of one fresh piece that repeats, and of one fill. Assumes nothing.
use mathlib.Core.Path.{◌≡◌, refl, ap, ap₂}
use mathlib.Core.Bool.{◌&&◌}
use mathlib.Core.List.{List, [], ◌∷◌, ◌++◌}
use Prim.Native.Nat.{ℕ, zero, suc, ◌+◌, ◌-◌, ◌<◌}
use native.Mathlib.Omega.{arith}
use lib.Dec.{eqb}
use lib.ListN.{drop, replicate, get_or-replicate}
use Rattle.answers.specs.declared.AnswerRow.{AnswerRow}
use Rattle.answers.specs.Answer.{answer_row_at, no_answer_row, is_fresh, width_in_rows, high_bit, home_row, answer_row_numbers, numbers_from, answer_numbers}
use Rattle.answers.proofs.Homes.{of_piece, home_is}
use Rattle.worked.specs.Cases.{times, piece}

-- a row of variable 0
abbrev pub row_of : ℕ → ℕ → ℕ → AnswerRow
row_of kind width fresh = record { variable = 0; kind = kind; width = width; fresh = fresh }

-- the numbers of row j, from its home row
module _ (rows : List AnswerRow) where
  pub row_is : (j h : ℕ) (r s : AnswerRow) (high : ℕ) → answer_row_at rows j ≡ r → home_row rows j ≡ h → answer_row_at rows h ≡ s → high_bit rows h ≡ high
      → answer_row_numbers rows j ≡ piece r.variable r.kind r.width r.fresh s.variable high
  unfolding answer_row_numbers
  row_is j h r s high a b c d = rw (b, a, c, d)

  pub of-piece : (j i : ℕ) (r s : AnswerRow) → answer_row_at rows j ≡ r → answer_row_at rows i ≡ s → of_piece rows j i ≡ is_fresh s && eqb s.fresh r.fresh
  of-piece j i r s a b = rw (a, b)

  pub high_is : (j : ℕ) (r : AnswerRow) (left : List AnswerRow) (w : ℕ) → answer_row_at rows j ≡ r → drop j rows ≡ left → width_in_rows left r.variable ≡ w
      → high_bit rows j ≡ w - 1
  unfolding high_bit
  high_is j r left w a b c = rw (a, b, c)

-- One fresh piece of width 1, n times.
module _ (n : ℕ) where
  abbrev same : List AnswerRow
  same = replicate n (row_of 2 1 0)

  same_at : (j : ℕ) → j < n → answer_row_at same j ≡ row_of 2 1 0
  same_at j l = get_or-replicate n j (row_of 2 1 0) no_answer_row l

  same_width : (k : ℕ) → width_in_rows (replicate k (row_of 2 1 0)) 0 ≡ k
  unfolding width_in_rows
  same_width zero = refl
  same_width (suc k) = omega (arith, same_width k)

  same_row : (j : ℕ) → j < n → answer_row_numbers same j ≡ piece 0 2 1 0 0 (n - 1)
  same_row j l =
      row_is same j 0 (row_of 2 1 0) (row_of 2 1 0) (n - 1) (same_at j l)
      (home_is same j 0 (ap is_fresh (same_at j l)) (omega arith) (of-piece same j 0 (row_of 2 1 0) (row_of 2 1 0) (same_at j l) (same_at 0 (omega arith))) (λ i m. absurd (omega arith)))
      (same_at 0 (omega arith)) (high_is same 0 (row_of 2 1 0) same n (same_at 0 (omega arith)) refl (same_width n))

  same_from : (k j : ℕ) → j + k ≡ n → numbers_from same j (replicate k (row_of 2 1 0)) ≡ times k (piece 0 2 1 0 0 (n - 1))
  unfolding numbers_from
  same_from zero j e = refl
  same_from (suc k) j e = ap₂ (λ (x y : List ℕ). x ++ y) (same_row j (omega arith)) (same_from k (suc j) (omega arith))

  pub piece_numbers : answer_numbers (replicate n (row_of 2 1 0)) ≡ times n (piece 0 2 1 0 0 (n - 1))
  unfolding answer_numbers
  piece_numbers = same_from n 0 (omega arith)

-- One fill as wide as its variable.
pub fill_numbers : (w : ℕ) → answer_numbers (row_of 0 w 0 ∷ []) ≡ piece 0 0 w 0 0 (w - 1)
unfolding answer_numbers numbers_from answer_row_numbers home_row high_bit width_in_rows
fill_numbers w = let e : w + 0 - 1 ≡ w - 1 = omega arith in rw e
