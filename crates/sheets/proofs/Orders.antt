-- The values of a row in the order of the names, and the row of four values: each undoes the other in each of the 24 orders.
use mathlib.Core.Path.{◌≡◌, refl, sym, ◌∙◌, ap}
use mathlib.Core.Bool.{Bool, true, false, ◌||◌, cond}
use Prim.Native.Nat.{ℕ, zero, suc, ◌+◌, ◌<◌, ◌≤◌}
use native.Mathlib.Omega.{arith}
use lib.Dec.{eqb}
use borrow.Author.Tests.{eq-eqb, ne_eqb, eqb-true, eqb-false, not-true}
use Rattle.terms.specs.declared.Row.{Row}
use Rattle.laws.proofs.Bools.{or_first, or_second}
use Rattle.sheets.specs.declared.Order.{Order}
use Rattle.sheets.specs.Text.{value_for, row_of_values, all_different}
use Rattle.sheets.specs.Writing.{column, IsOrder, SmallRow}

-- four different columns
record Apart (i j k l : ℕ) : Type 0 where
  ij : i ≡ j → ⊥
  ik : i ≡ k → ⊥
  il : i ≡ l → ⊥
  jk : j ≡ k → ⊥
  jl : j ≡ l → ⊥
  kl : k ≡ l → ⊥

apart : (i j k l : ℕ) → all_different i j k l ≡ true → Apart i j k l
unfolding all_different
apart i j k l h =
    let t₁ = eqb i j in
    let t₂ = eqb i k in
    let t₃ = eqb i l in
    let t₄ = eqb j k in
    let t₅ = eqb j l in
    let t₆ = eqb k l in
    let o₆ : t₁ || t₂ || t₃ || t₄ || t₅ || t₆ ≡ false = not-true (t₁ || t₂ || t₃ || t₄ || t₅ || t₆) h in
    let o₅ : t₁ || t₂ || t₃ || t₄ || t₅ ≡ false = or_first (t₁ || t₂ || t₃ || t₄ || t₅) t₆ o₆ in
    let o₄ : t₁ || t₂ || t₃ || t₄ ≡ false = or_first (t₁ || t₂ || t₃ || t₄) t₅ o₅ in
    let o₃ : t₁ || t₂ || t₃ ≡ false = or_first (t₁ || t₂ || t₃) t₄ o₄ in
    let o₂ : t₁ || t₂ ≡ false = or_first (t₁ || t₂) t₃ o₃ in
    record {
      ij = eqb-false i j (or_first t₁ t₂ o₂);
      ik = eqb-false i k (or_second t₁ t₂ o₂);
      il = eqb-false i l (or_second (t₁ || t₂) t₃ o₃);
      jk = eqb-false j k (or_second (t₁ || t₂ || t₃) t₄ o₄);
      jl = eqb-false j l (or_second (t₁ || t₂ || t₃ || t₄) t₅ o₅);
      kl = eqb-false k l (or_second (t₁ || t₂ || t₃ || t₄ || t₅) t₆ o₆);
    }

-- four different columns come to 0 + 1 + 2 + 3, so a column that is none of the first three is the fourth
columns_sum : (i j k l : ℕ) → i < 4 → j < 4 → k < 4 → l < 4 → Apart i j k l → i + j + k + l ≡ 6
columns_sum zero j k l hi hj hk hl p = omega arith
columns_sum (suc zero) j k l hi hj hk hl p = omega arith
columns_sum (suc (suc zero)) j k l hi hj hk hl p = omega arith
columns_sum (suc (suc (suc zero))) j k l hi hj hk hl p = omega arith
columns_sum (suc (suc (suc (suc i)))) j k l hi hj hk hl p = absurd (omega arith)

last_column : (i j k l n : ℕ) → i < 4 → j < 4 → k < 4 → l < 4 → n < 4 → Apart i j k l → (i ≡ n → ⊥) → (j ≡ n → ⊥) → (k ≡ n → ⊥) → l ≡ n
last_column i j k l n hi hj hk hl hn p a b c =
    let s : i + j + k + l ≡ 6 = columns_sum i j k l hi hj hk hl p in
    let q : Apart i j k n = record { ij = p.ij; ik = p.ik; il = a; jk = p.jk; jl = b; kl = c } in
    let t : i + j + k + n ≡ 6 = columns_sum i j k n hi hj hk hn q in
    same (i + j + k) l n (s ∙ sym t)
  where
    same : (x y z : ℕ) → x + y ≡ x + z → y ≡ z
    same x y z e = omega arith

module _ (order : Order) (is : IsOrder order) where
  facts : Apart order.first order.second order.third order.fourth
  facts = apart order.first order.second order.third order.fourth is.different

  -- the value for a column, where the values are a row's in this order
  value_is : (f : ℕ → ℕ) (n : ℕ) → n < 4 → value_for order n (f order.first) (f order.second) (f order.third) (f order.fourth) ≡ f n
  unfolding value_for
  value_is f n h = go (eqb order.first n) (eqb order.second n) (eqb order.third n) refl refl refl
    where
      go : (s t u : Bool) → eqb order.first n ≡ s → eqb order.second n ≡ t → eqb order.third n ≡ u
          → cond s (f order.first) (cond t (f order.second) (cond u (f order.third) (f order.fourth))) ≡ f n
      go true t u a b c = ap f (eqb-true order.first n a)
      go false true u a b c = ap f (eqb-true order.second n b)
      go false false true a b c = ap f (eqb-true order.third n c)
      go false false false a b c =
          ap f (last_column order.first order.second order.third order.fourth n is.first_is is.second_is is.third_is is.fourth_is h facts
          (eqb-false order.first n a) (eqb-false order.second n b) (eqb-false order.third n c))

  -- a row is what its values in this order are placed to
  pub row-placed : (row : Row) → row_of_values order (column row order.first) (column row order.second) (column row order.third) (column row order.fourth) ≡ row
  unfolding row_of_values column
  row-placed row =
      let k = value_is (column row) 0 (omega arith) in
      let a = value_is (column row) 1 (omega arith) in
      let b = value_is (column row) 2 (omega arith) in
      let c = value_is (column row) 3 (omega arith) in
      ap₄ k a b c
    where
      ap₄ : {x x' y y' z z' w w' : ℕ} → x ≡ x' → y ≡ y' → z ≡ z' → w ≡ w'
          → ◌≡◌ {A = Row} (record { kind = x; a = y; b = z; c = w }) (record { kind = x'; a = y'; b = z'; c = w' })
      ap₄ p q r t = cc

  -- the columns of four values placed in this order are those values
  module _ (v₁ v₂ v₃ v₄ : ℕ) where
    column_is : (n : ℕ) → n < 4 → column (row_of_values order v₁ v₂ v₃ v₄) n ≡ value_for order n v₁ v₂ v₃ v₄
    unfolding row_of_values column
    column_is zero h = refl
    column_is (suc zero) h = refl
    column_is (suc (suc zero)) h = refl
    column_is (suc (suc (suc zero))) h = refl
    column_is (suc (suc (suc (suc n)))) h = absurd (omega arith)

    pub first_placed : column (row_of_values order v₁ v₂ v₃ v₄) order.first ≡ v₁
    unfolding value_for
    first_placed = column_is order.first is.first_is ∙ rw (eq-eqb order.first order.first refl)

    pub second_placed : column (row_of_values order v₁ v₂ v₃ v₄) order.second ≡ v₂
    unfolding value_for
    second_placed =
        column_is order.second is.second_is ∙ rw (ne_eqb order.first order.second facts.ij, eq-eqb order.second order.second refl)

    pub third_placed : column (row_of_values order v₁ v₂ v₃ v₄) order.third ≡ v₃
    unfolding value_for
    third_placed =
        column_is order.third is.third_is
        ∙ rw (ne_eqb order.first order.third facts.ik, ne_eqb order.second order.third facts.jk, eq-eqb order.third order.third refl)

    pub fourth_placed : column (row_of_values order v₁ v₂ v₃ v₄) order.fourth ≡ v₄
    unfolding value_for
    fourth_placed =
        column_is order.fourth is.fourth_is
        ∙ rw (ne_eqb order.first order.fourth facts.il, ne_eqb order.second order.fourth facts.jl, ne_eqb order.third order.fourth facts.kl)

-- small values, small rows
value_small : (order : Order) (n v₁ v₂ v₃ v₄ : ℕ) → v₁ ≤ 65535 → v₂ ≤ 65535 → v₃ ≤ 65535 → v₄ ≤ 65535 → value_for order n v₁ v₂ v₃ v₄ ≤ 65535
unfolding value_for
value_small order n v₁ v₂ v₃ v₄ h₁ h₂ h₃ h₄ = go (eqb order.first n) (eqb order.second n) (eqb order.third n)
  where
    go : (s t u : Bool) → cond s v₁ (cond t v₂ (cond u v₃ v₄)) ≤ 65535
    go true t u = h₁
    go false true u = h₂
    go false false true = h₃
    go false false false = h₄

pub placed_small : (order : Order) (v₁ v₂ v₃ v₄ : ℕ) → v₁ ≤ 65535 → v₂ ≤ 65535 → v₃ ≤ 65535 → v₄ ≤ 65535 → SmallRow (row_of_values order v₁ v₂ v₃ v₄)
unfolding row_of_values
placed_small order v₁ v₂ v₃ v₄ h₁ h₂ h₃ h₄ =
    let small : (n : ℕ) → value_for order n v₁ v₂ v₃ v₄ ≤ 65535 = λ n. value_small order n v₁ v₂ v₃ v₄ h₁ h₂ h₃ h₄ in
    record { kind_small = small 0; a_small = small 1; b_small = small 2; c_small = small 3 }

pub column_small : (row : Row) (n : ℕ) → SmallRow row → column row n ≤ 65535
unfolding column
column_small row zero s = s.kind_small
column_small row (suc zero) s = s.a_small
column_small row (suc (suc zero)) s = s.b_small
column_small row (suc (suc (suc n))) s = s.c_small
