-- The rows of an answer by their first places: each is the row of the place where it begins, with more bits, and a row begins at each place
-- that does not go on. Assumes nothing.
use mathlib.Core.Path.{◌≡◌, refl, sym, ap, ◌∙◌, subst}
use mathlib.Core.Logic.{◌⊎◌, inl, inr}
use mathlib.Core.Bool.{Bool, true, false}
use mathlib.Core.List.{List, [], ◌∷◌, reverse, reverse-cons}
use Prim.Native.Nat.{ℕ, zero, suc, ◌≤◌, ◌<◌}
use native.Mathlib.Omega.{arith}
use lib.ListN.{length, take, length-append, get_or-append}
use lib.Seq.{take-append-le, take-append_seam, get_or-append_seam}
use Rattle.laws.proofs.Numbers.{below-or_at}
use Rattle.answers.specs.declared.AnswerRow.{AnswerRow}
use Rattle.answers.specs.Answer.{no_answer_row, answer_row_at, goes_on, place_row, placed, rows_to, answer_rows}
use Rattle.assignments.specs.Form.{pattern_bits}
use Rattle.assignments.proofs.Turning.{bits_reverse}

module _ (n : ℕ) (ws : List ℕ) (same : ℕ → ℕ → Bool) where
  abbrev at : ℕ → AnswerRow
  at = place_row n ws same

  -- a row that begins at place i
  pub record Begins (i : ℕ) (r : AnswerRow) : Type 0 where
    pub variable_is : r.variable ≡ (place_row n ws same i).variable
    pub kind_is : r.kind ≡ (place_row n ws same i).kind
    pub fresh_is : r.fresh ≡ (place_row n ws same i).fresh
    pub new : goes_on n ws same i ≡ false
    pub wide : 1 ≤ r.width

  -- rows that stand last first, each at its first place; a row that begins at place q among them
  abbrev Back : List AnswerRow → Type 0
  Back [] = Unit {0}
  Back (r ∷ rest) = Begins (pattern_bits rest) r × Back rest

  abbrev Stands : ℕ → List AnswerRow → Type 0
  Stands q [] = ⊥
  Stands q (r ∷ rest) = (pattern_bits rest ≡ q) ⊎ Stands q rest

  first-row : (i : ℕ) → goes_on n ws same i ≡ false → Begins i (at i)
  unfolding place_row
  first-row i g = record { variable_is = refl; kind_is = refl; fresh_is = refl; new = g; wide = omega arith }

  step : (i : ℕ) (b : Bool) → goes_on n ws same i ≡ b → (xs : List AnswerRow) → pattern_bits xs ≡ i → Back xs
      → (pattern_bits (placed b (at i) xs) ≡ suc i) × Back (placed b (at i) xs)
  unfolding placed pattern_bits
  step i b g [] e B =
      let w : (at i).width ≡ 1 = unfold place_row in refl in
      let z : goes_on n ws same 0 ≡ false = unfold goes_on in refl in
      (omega (arith, w, e), (subst (λ (k : ℕ). Begins 0 (at k)) e (first-row 0 z), tt))
  step i true g (s ∷ xs) e B =
      let S = B.0 in
      (omega (arith, e), (record { variable_is = S.variable_is; kind_is = S.kind_is; fresh_is = S.fresh_is; new = S.new; wide = omega arith }, B.1))
  step i false g (s ∷ xs) e B =
      let w : (at i).width ≡ 1 = unfold place_row in refl in
      (omega (arith, w, e), (subst (λ (k : ℕ). Begins k (at i)) (sym e) (first-row i g), B))

  back : (i : ℕ) → (pattern_bits (rows_to n ws same i) ≡ i) × Back (rows_to n ws same i)
  unfolding rows_to pattern_bits
  back zero = (refl, tt)
  back (suc i) = let B = back i in step i (goes_on n ws same i) refl (rows_to n ws same i) B.0 B.1

  kept : (q : ℕ) (b : Bool) (r : AnswerRow) (xs : List AnswerRow) → Stands q xs → Stands q (placed b r xs)
  unfolding placed
  kept q b r [] h = absurd h
  kept q true r (s ∷ xs) h = h
  kept q false r (s ∷ xs) h = inr h

  begun : (q : ℕ) (r : AnswerRow) (xs : List AnswerRow) → pattern_bits xs ≡ q → Stands q (placed false r xs)
  unfolding placed
  begun q r [] e = inl e
  begun q r (s ∷ xs) e = inl e

  stands : (q : ℕ) → goes_on n ws same q ≡ false → (i : ℕ) → q < i → Stands q (rows_to n ws same i)
  unfolding rows_to
  stands q g zero l = absurd (omega arith)
  stands q g (suc i) l = go (below-or_at q i l) (λ (m : q < i). stands q g i m)
    where
      go : (q < i) ⊎ (q ≡ i) → (q < i → Stands q (rows_to n ws same i)) → Stands q (placed (goes_on n ws same i) (at i) (rows_to n ws same i))
      go (inl m) h = kept q (goes_on n ws same i) (at i) (rows_to n ws same i) (h m)
      go (inr e) h =
          let f : goes_on n ws same i ≡ false = ap (goes_on n ws same) (sym e) ∙ g in
          rw f (begun q (at i) (rows_to n ws same i) ((back i).0 ∙ sym e))

  -- the rows turned round, by their numbers
  turn : (xs : List AnswerRow) → Back xs → (j : ℕ) → j < length (reverse xs) → Begins (pattern_bits (take j (reverse xs))) (answer_row_at (reverse xs) j)
  turn [] B j l = absurd (omega arith)
  turn (x ∷ xs) B j l = go (below-or_at j (length (reverse xs)) more) (λ (m : j < length (reverse xs)). turn xs B.1 j m)
    where
      more : j < suc (length (reverse xs))
      more = omega (arith, ap length (reverse-cons x xs), length-append (reverse xs) (x ∷ []))

      go : (j < length (reverse xs)) ⊎ (j ≡ length (reverse xs)) → (j < length (reverse xs) → Begins (pattern_bits (take j (reverse xs))) (answer_row_at (reverse xs) j))
          → Begins (pattern_bits (take j (reverse (x ∷ xs)))) (answer_row_at (reverse (x ∷ xs)) j)
      go (inl m) h =
          rw (reverse-cons x xs, take-append-le j (reverse xs) (x ∷ []) (omega arith), get_or-append (reverse xs) (x ∷ []) no_answer_row j m) (h m)
      go (inr e) h =
          rw (e, reverse-cons x xs, take-append_seam (reverse xs) (x ∷ []), get_or-append_seam (reverse xs) x [] no_answer_row, bits_reverse xs) B.0

  found : (q : ℕ) (xs : List AnswerRow) → Stands q xs → (h : ℕ) × (h < length (reverse xs)) × (pattern_bits (take h (reverse xs)) ≡ q)
  found q [] s = absurd s
  found q (x ∷ xs) (inl e) = (
    length (reverse xs),
    omega (arith, ap length (reverse-cons x xs), length-append (reverse xs) (x ∷ [])),
    rw (reverse-cons x xs, take-append_seam (reverse xs) (x ∷ []), bits_reverse xs) e,
  )
  found q (x ∷ xs) (inr s) =
      let F = found q xs s in (
        F.0,
        omega (arith, F.1, ap length (reverse-cons x xs), length-append (reverse xs) (x ∷ [])),
        rw (reverse-cons x xs, take-append-le F.0 (reverse xs) (x ∷ []) (omega (arith, F.1))) F.2,
      )

  -- Each row begins at its first place; and a row begins at each place that does not go on.
  pub begins_at : (j : ℕ) → j < length (answer_rows n ws same) → Begins (pattern_bits (take j (answer_rows n ws same))) (answer_row_at (answer_rows n ws same) j)
  unfolding answer_rows
  begins_at j l = turn (rows_to n ws same n) (back n).1 j l

  pub row_of : (q : ℕ) → q < n → goes_on n ws same q ≡ false
      → (h : ℕ) × (h < length (answer_rows n ws same)) × (pattern_bits (take h (answer_rows n ws same)) ≡ q)
  unfolding answer_rows
  row_of q l g = found q (rows_to n ws same n) (stands q g n l)

  pub all-bits : pattern_bits (answer_rows n ws same) ≡ n
  unfolding answer_rows
  all-bits = bits_reverse (rows_to n ws same n) ∙ (back n).0
