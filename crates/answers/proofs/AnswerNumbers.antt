-- An answer table as numbers: how many they are, where each row's columns stand, that they are read as they were written, and its first
-- rows; and the rows' own four numbers alone.
use mathlib.Core.Path.{◌≡◌, refl, sym, ◌∙◌, ap}
use mathlib.Core.List.{List, [], ◌∷◌, ◌++◌, map}
use Prim.Native.Nat.{ℕ, zero, suc, ◌+◌, ◌*◌, ◌/◌, ◌<◌, ◌≤◌}
use native.Mathlib.Omega.{arith}
use lib.ListN.{length, get_or, take, length-map, get_or-append, get_or-eq_default, get_or-map}
use lib.Seq.{get_or-append-add}
use Rattle.laws.proofs.Lists.{map-take}
use Rattle.answers.specs.declared.AnswerRow.{AnswerRow}
use Rattle.answers.specs.Answer.{no_answer_row, answer_row_at, answer_row_numbers, numbers_from, answer_numbers, answer_rows_of}
use Rattle.answers.specs.inner.FourNumbers.{four_numbers, answer_columns}
use Rattle.answers.specs.RightSide.{row_variables}

-- the rows' own four numbers
pub four_append : (f g : List AnswerRow) → four_numbers (f ++ g) ≡ four_numbers f ++ four_numbers g
unfolding four_numbers
four_append [] g = refl
four_append (p ∷ f) g = ap (λ (l : List ℕ). p.variable ∷ p.kind ∷ p.width ∷ p.fresh ∷ l) (four_append f g)

pub four-length : (f : List AnswerRow) → length (four_numbers f) ≡ length f * 4
unfolding four_numbers
four-length [] = refl
four-length (p ∷ f) = omega (arith, four-length f)

four_skip : (v k w f : ℕ) (t : List ℕ) (r : ℕ) → answer_columns t (r * 4) ≡ answer_columns (v ∷ k ∷ w ∷ f ∷ t) (suc r * 4)
four_skip v k w f t r =
    let e₀ : suc r * 4 ≡ suc (suc (suc (suc (r * 4)))) = omega arith in
    let e₁ : suc r * 4 + 1 ≡ suc (suc (suc (suc (r * 4 + 1)))) = omega arith in
    let e₂ : suc r * 4 + 2 ≡ suc (suc (suc (suc (r * 4 + 2)))) = omega arith in
    let e₃ : suc r * 4 + 3 ≡ suc (suc (suc (suc (r * 4 + 3)))) = omega arith in
    rw (e₁, e₂, e₃, e₀)

pub four_columns : (rows : List AnswerRow) (r : ℕ) → r < length rows → answer_columns (four_numbers rows) (r * 4) ≡ answer_row_at rows r
unfolding four_numbers
four_columns [] r h = absurd (omega arith)
four_columns (p ∷ rows) zero h = refl
four_columns (p ∷ rows) (suc r) h =
    sym (four_skip p.variable p.kind p.width p.fresh (four_numbers rows) r) ∙ four_columns rows r (omega arith)

-- the numbers of a table: how many, and number i of row j
from_length : (rows : List AnswerRow) (j : ℕ) (rs : List AnswerRow) → length (numbers_from rows j rs) ≡ length rs * 6
unfolding numbers_from answer_row_numbers
from_length rows j [] = refl
from_length rows j (r ∷ rs) = omega (arith, from_length rows (suc j) rs)

pub numbers_length : (rows : List AnswerRow) → length (answer_numbers rows) ≡ length rows * 6
unfolding answer_numbers
numbers_length rows = from_length rows 0 rows

six : (rows : List AnswerRow) (j : ℕ) → length (answer_row_numbers rows j) ≡ 6
unfolding answer_row_numbers
six rows j = refl

from_at : (rows : List AnswerRow) (k : ℕ) (rs : List AnswerRow) (j i : ℕ) → j < length rs → i < 6
    → get_or (numbers_from rows k rs) (j * 6 + i) 0 ≡ get_or (answer_row_numbers rows (k + j)) i 0
unfolding numbers_from
from_at rows k [] j i h l = absurd (omega arith)
from_at rows k (r ∷ rs) zero i h l =
    let e : k + 0 ≡ k = omega arith in
    let a : 0 * 6 + i ≡ i = omega arith in
    ap (λ (n : ℕ). get_or (answer_row_numbers rows k ++ numbers_from rows (suc k) rs) n 0) a
    ∙ get_or-append (answer_row_numbers rows k) (numbers_from rows (suc k) rs) 0 i (omega (arith, six rows k))
    ∙ ap (λ (n : ℕ). get_or (answer_row_numbers rows n) i 0) (sym e)
from_at rows k (r ∷ rs) (suc j) i h l =
    let e : suc k + j ≡ k + suc j = omega arith in
    let a : suc j * 6 + i ≡ length (answer_row_numbers rows k) + (j * 6 + i) = omega (arith, six rows k) in
    ap (λ (n : ℕ). get_or (answer_row_numbers rows k ++ numbers_from rows (suc k) rs) n 0) a
    ∙ get_or-append-add (answer_row_numbers rows k) (numbers_from rows (suc k) rs) (j * 6 + i) 0
    ∙ from_at rows (suc k) rs j i (omega arith) l
    ∙ ap (λ (n : ℕ). get_or (answer_row_numbers rows n) i 0) e

pub number_at : (rows : List AnswerRow) (j i : ℕ) → j < length rows → i < 6 → get_or (answer_numbers rows) (j * 6 + i) 0 ≡ get_or (answer_row_numbers rows j) i 0
unfolding answer_numbers
number_at rows j i h l = let e : 0 + j ≡ j = omega arith in from_at rows 0 rows j i h l ∙ ap (λ (n : ℕ). get_or (answer_row_numbers rows n) i 0) e

-- what was written is read as it was
from_back : (rows : List AnswerRow) (j : ℕ) (rs : List AnswerRow) → ((i : ℕ) → i < length rs → answer_row_at rows (j + i) ≡ answer_row_at rs i)
    → answer_rows_of (numbers_from rows j rs) ≡ rs
unfolding answer_rows_of numbers_from answer_row_numbers
from_back rows j [] h = refl
from_back rows j (r ∷ rs) h =
    let e : answer_row_at rows j ≡ r = let a : j + 0 ≡ j = omega arith in rw a at (h 0 (omega arith)) in
    let g : (i : ℕ) → i < length rs → answer_row_at rows (suc j + i) ≡ answer_row_at rs i = λ i l. let a : j + suc i ≡ suc j + i = omega arith in rw a at (h (suc i) (omega arith)) in
    rw (e, from_back rows (suc j) rs g)

-- Rows written as numbers are read as they were.
pub rows_back : (rows : List AnswerRow) → answer_rows_of (answer_numbers rows) ≡ rows
unfolding answer_numbers
rows_back rows = from_back rows 0 rows (λ i l. let e : 0 + i ≡ i = omega arith in ap (answer_row_at rows) e)

pub answer_length : (t : List ℕ) → length (answer_rows_of t) ≡ length t / 6
unfolding answer_rows_of
answer_length [] = refl
answer_length (v ∷ []) = refl
answer_length (v ∷ k ∷ []) = refl
answer_length (v ∷ k ∷ w ∷ []) = refl
answer_length (v ∷ k ∷ w ∷ f ∷ []) = refl
answer_length (v ∷ k ∷ w ∷ f ∷ h ∷ []) = refl
answer_length (v ∷ k ∷ w ∷ f ∷ h ∷ b ∷ t) = omega (arith, answer_length t)

columns_skip : (v k w f h b : ℕ) (t : List ℕ) (r : ℕ) → answer_columns t (r * 6) ≡ answer_columns (v ∷ k ∷ w ∷ f ∷ h ∷ b ∷ t) (suc r * 6)
columns_skip v k w f h b t r =
    let e₀ : suc r * 6 ≡ suc (suc (suc (suc (suc (suc (r * 6)))))) = omega arith in
    let e₁ : suc r * 6 + 1 ≡ suc (suc (suc (suc (suc (suc (r * 6 + 1)))))) = omega arith in
    let e₂ : suc r * 6 + 2 ≡ suc (suc (suc (suc (suc (suc (r * 6 + 2)))))) = omega arith in
    let e₃ : suc r * 6 + 3 ≡ suc (suc (suc (suc (suc (suc (r * 6 + 3)))))) = omega arith in
    rw (e₁, e₂, e₃, e₀)

pub answer-columns : (t : List ℕ) (r : ℕ) → r < length t / 6 → answer_columns t (r * 6) ≡ answer_row_at (answer_rows_of t) r
unfolding answer_rows_of
answer-columns [] r l = absurd (omega arith)
answer-columns (v ∷ []) r l = absurd (omega arith)
answer-columns (v ∷ k ∷ []) r l = absurd (omega arith)
answer-columns (v ∷ k ∷ w ∷ []) r l = absurd (omega arith)
answer-columns (v ∷ k ∷ w ∷ f ∷ []) r l = absurd (omega arith)
answer-columns (v ∷ k ∷ w ∷ f ∷ h ∷ []) r l = absurd (omega arith)
answer-columns (v ∷ k ∷ w ∷ f ∷ h ∷ b ∷ t) zero l = refl
answer-columns (v ∷ k ∷ w ∷ f ∷ h ∷ b ∷ t) (suc r) l = sym (columns_skip v k w f h b t r) ∙ answer-columns t r (omega arith)

pub answer_past : (t : List ℕ) (r : ℕ) → length t / 6 ≤ r → no_answer_row ≡ answer_row_at (answer_rows_of t) r
answer_past t r h = sym (get_or-eq_default (answer_rows_of t) no_answer_row (omega (arith, answer_length t)))

-- the rows of the first numbers are the first rows
answer_take : (t : List ℕ) (n : ℕ) → n ≤ length t / 6 → answer_rows_of (take (n * 6) t) ≡ take n (answer_rows_of t)
unfolding answer_rows_of
answer_take t zero l = refl
answer_take [] (suc n) l = absurd (omega arith)
answer_take (v ∷ []) (suc n) l = absurd (omega arith)
answer_take (v ∷ k ∷ []) (suc n) l = absurd (omega arith)
answer_take (v ∷ k ∷ w ∷ []) (suc n) l = absurd (omega arith)
answer_take (v ∷ k ∷ w ∷ f ∷ []) (suc n) l = absurd (omega arith)
answer_take (v ∷ k ∷ w ∷ f ∷ h ∷ []) (suc n) l = absurd (omega arith)
answer_take (v ∷ k ∷ w ∷ f ∷ h ∷ b ∷ t) (suc n) l =
    let e : suc n * 6 ≡ suc (suc (suc (suc (suc (suc (n * 6)))))) = omega arith in
    rw e (ap (λ (l : List AnswerRow). record { variable = v; kind = k; width = w; fresh = f } ∷ l) (answer_take t n (omega arith)))

-- the variables of the rows
pub variables_length : (t : List ℕ) → length (row_variables t) ≡ length t / 6
unfolding row_variables
variables_length t = length-map (answer_rows_of t) (λ r. r.variable) ∙ answer_length t

pub variable-at : (t : List ℕ) (r : ℕ) → get_or (row_variables t) r 0 ≡ (answer_row_at (answer_rows_of t) r).variable
unfolding row_variables
variable-at t r = get_or-map (λ r. r.variable) (answer_rows_of t) r no_answer_row

-- which is the row's first number
pub variable_number : (t : List ℕ) (r : ℕ) → r < length t / 6 → get_or (row_variables t) r 0 ≡ get_or t (r * 6) 0
variable_number t r h = variable-at t r ∙ ap (λ (x : AnswerRow). x.variable) (sym (answer-columns t r h))

pub variables_take : (t : List ℕ) (n : ℕ) → n ≤ length t / 6 → row_variables (take (n * 6) t) ≡ take n (row_variables t)
unfolding row_variables
variables_take t n h = ap (map (λ r. r.variable)) (answer_take t n h) ∙ map-take (λ r. r.variable) n (answer_rows_of t)
