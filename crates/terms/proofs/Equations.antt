-- The seven equations of definition 3.2 of document 001, at every width: of the values of rows of a table none of
-- whose rows breaks a rule, under every assignment. In the comments s is a term of width n, and u one of width m.
-- The conditions that follow from the rules, on both sides' rows, are derived and not asked for.
use mathlib.Core.Path.{◌≡◌, sym, ◌∙◌, ap, ap₂}
use mathlib.Core.List.{List, ◌++◌, append_assoc}
use Prim.Native.Nat.{ℕ, ◌+◌, ◌-◌, ◌<◌, ◌≤◌}
use native.Mathlib.Omega.{arith}
use lib.ListN.{length}
use Rattle.terms.specs.declared.Row.{Row}
use Rattle.terms.specs.Table.{row_at, width_of, bits_of, extract, value_of}
use Rattle.terms.proofs.Faults.{kept, kept_names, kept_bounds, concat_names, extract_names}
use Rattle.terms.proofs.Values.{value-concat, value-extract, value-length, width_extract}
use Rattle.terms.specs.Sound.{Sound, IsConcat, IsExtract}
use Rattle.terms.proofs.Words.{extract_right, extract_left, extract_across, extract_whole, extract_join, extract-extract}

-- what row r as a ⊗ b says of values, and that its parts have their widths
record Concat (t : List Row) (p : List ℕ) (r a b : ℕ) : Type 0 where
  value : value_of t p r ≡ value_of t p a ++ value_of t p b
  left_width : length (value_of t p a) ≡ width_of t a
  right_width : length (value_of t p b) ≡ width_of t b

-- what row r as a ^ (high, low) says of values, and what its bounds are
record Extract (t : List Row) (p : List ℕ) (r a high low : ℕ) : Type 0 where
  value : value_of t p r ≡ extract (value_of t p a) high low
  word_width : length (value_of t p a) ≡ width_of t a
  width : width_of t r ≡ high + 1 - low
  below : high < width_of t a
  order : low ≤ high

module _ (t : List Row) (p : List ℕ) (sound : Sound t) (full : length p ≡ bits_of t) where
  concat : {r a b : ℕ} → IsConcat t r a b → Concat t p r a b
  concat {r} {a} {b} h =
      let k = kept t r (sound r h.in_table) in
      let names = concat_names t r (row_at t r) (kept_names t r k) h.is_concat in
      record {
        value = value-concat t p r h.in_table k h.is_concat ∙ rw (h.left_is, h.right_is);
        left_width = value-length t p sound full a (omega (arith, names.0.earlier, h.in_table, h.left_is));
        right_width = value-length t p sound full b (omega (arith, names.1.earlier, h.in_table, h.right_is));
      }

  cut : {r a high low : ℕ} → IsExtract t r a high low → Extract t p r a high low
  cut {r} {a} {high} {low} h =
      let k = kept t r (sound r h.in_table) in
      let name = extract_names t r (row_at t r) (kept_names t r k) h.is_extract in
      record {
        value = value-extract t p r h.in_table k h.is_extract ∙ rw (h.word_is, h.high_is, h.low_is);
        word_width = value-length t p sound full a (omega (arith, name.earlier, h.in_table, h.word_is));
        width = width_extract t r h.in_table h.is_extract ∙ rw (h.high_is, h.low_is);
        below = rw (h.word_is, h.high_is) at (kept_bounds t r k h.is_extract).0;
        order = rw (h.high_is, h.low_is) at (kept_bounds t r k h.is_extract).1;
      }

  -- Equation 1: (s ⊗ u) ^ (i, k) = u ^ (i, k) if m > i ≥ k.
  pub equation_1 : {j s u x y i k : ℕ} → IsConcat t j s u → IsExtract t x j i k → IsExtract t y u i k
      → value_of t p x ≡ value_of t p y
  equation_1 {j} {s} {u} {x} {y} {i} {k} isj isx isy =
      let ej = concat isj in
      let ey = cut isy in
      (cut isx).value
      ∙ ap (λ (w : List ℕ). extract w i k) ej.value
      ∙ extract_right (value_of t p s) (value_of t p u) i k (omega arith)
      ∙ sym ey.value

  -- Equation 2: (s ⊗ u) ^ (i, k) = s ^ (i - m, k - m) if m + n > i ≥ k ≥ m.
  pub equation_2 : {j s u x y i k : ℕ} → IsConcat t j s u → IsExtract t x j i k
      → IsExtract t y s (i - width_of t u) (k - width_of t u) → width_of t u ≤ k
      → value_of t p x ≡ value_of t p y
  equation_2 {j} {s} {u} {x} {y} {i} {k} isj isx isy h =
      let ej = concat isj in
      let ex = cut isx in
      let ey = cut isy in
      ex.value
      ∙ ap (λ (w : List ℕ). extract w i k) ej.value
      ∙ extract_left (value_of t p s) (value_of t p u) i k (omega arith) ex.order (omega arith)
      ∙ ap (λ (m : ℕ). extract (value_of t p s) (i - m) (k - m)) ej.right_width
      ∙ sym ey.value

  -- Equation 3: (s ⊗ u) ^ (i, k) = s ^ (i - m, 0) ⊗ u ^ (m - 1, k) if m + n > i ≥ m > k.
  pub equation_3 : {j s u x y z w i k : ℕ} → IsConcat t j s u → IsExtract t x j i k
      → IsExtract t y s (i - width_of t u) 0 → IsExtract t z u (width_of t u - 1) k → IsConcat t w y z → width_of t u ≤ i
      → value_of t p x ≡ value_of t p w
  equation_3 {j} {s} {u} {x} {y} {z} {w} {i} {k} isj isx isy isz isw h =
      let ej = concat isj in
      let ex = cut isx in
      let ey = cut isy in
      let ez = cut isz in
      ex.value
      ∙ ap (λ (w : List ℕ). extract w i k) ej.value
      ∙ extract_across (value_of t p s) (value_of t p u) i k (omega arith) (omega arith) (omega arith)
      ∙ ap (λ (m : ℕ). extract (value_of t p s) (i - m) 0 ++ extract (value_of t p u) (m - 1) k) ej.right_width
      ∙ ap₂ (λ (a b : List ℕ). a ++ b) (sym ey.value) (sym ez.value)
      ∙ sym (concat isw).value

  -- Equation 4: s ^ (n - 1, 0) = s.
  pub equation_4 : {s x : ℕ} → IsExtract t x s (width_of t s - 1) 0 → value_of t p x ≡ value_of t p s
  equation_4 {s} {x} isx =
      let ex = cut isx in
      ex.value
      ∙ ap (λ (n : ℕ). extract (value_of t p s) (n - 1) 0) (sym ex.word_width)
      ∙ extract_whole (value_of t p s) (omega arith)

  -- Equation 5: s ^ (i, j) ⊗ s ^ (j - 1, k) = s ^ (i, k); 1 ≤ j, since in ℕ 0 - 1 is 0.
  pub equation_5 : {s x y z w i j k : ℕ} → IsExtract t x s i j → IsExtract t y s (j - 1) k → IsConcat t z x y
      → IsExtract t w s i k → 1 ≤ j
      → value_of t p z ≡ value_of t p w
  equation_5 {s} {x} {y} {z} {w} {i} {j} {k} isx isy isz isw h =
      let ex = cut isx in
      let ey = cut isy in
      (concat isz).value
      ∙ ap₂ (λ (a b : List ℕ). a ++ b) ex.value ey.value
      ∙ extract_join (value_of t p s) i j k (omega arith) (omega arith) (omega arith)
      ∙ sym (cut isw).value

  -- Equation 6: (s ⊗ u) ⊗ v = s ⊗ (u ⊗ v).
  pub equation_6 : {s u v x y z w : ℕ} → IsConcat t x s u → IsConcat t y x v → IsConcat t z u v → IsConcat t w s z
      → value_of t p y ≡ value_of t p w
  equation_6 {s} {u} {v} {x} {y} {z} {w} isx isy isz isw =
      (concat isy).value
      ∙ ap (λ (a : List ℕ). a ++ value_of t p v) (concat isx).value
      ∙ append_assoc (value_of t p s) (value_of t p u) (value_of t p v)
      ∙ ap (λ (a : List ℕ). value_of t p s ++ a) (sym (concat isz).value)
      ∙ sym (concat isw).value

  -- Equation 7: s ^ (i, j) ^ (k, l) = s ^ (k + j, l + j).
  pub equation_7 : {s x y z i j k l : ℕ} → IsExtract t x s i j → IsExtract t y x k l → IsExtract t z s (k + j) (l + j)
      → value_of t p y ≡ value_of t p z
  equation_7 {s} {x} {y} {z} {i} {j} {k} {l} isx isy isz =
      let ex = cut isx in
      let ey = cut isy in
      ey.value
      ∙ ap (λ (w : List ℕ). extract w k l) ex.value
      ∙ extract-extract (value_of t p s) i j k l (omega arith) (omega arith) (omega arith) (omega arith)
      ∙ sym (cut isz).value
