-- The width of a variable from a row on, row by row from the last one back.
use mathlib.Core.Path.{◌≡◌, refl, sym, ◌∙◌, ap}
use mathlib.Core.Logic.{◌⊎◌, inl, inr, ◌≢◌}
use mathlib.Core.Bool.{cond}
use mathlib.Core.List.{List, [], ◌∷◌}
use Prim.Native.Nat.{ℕ, suc, ◌+◌, ◌-◌, ◌%◌, ◌≤◌, ◌<◌}
use native.Mathlib.Omega.{arith}
use lib.Dec.{eqb}
use lib.ListN.{length, drop, length-drop, drop_of_length-le}
use lib.Seq.{drop-cons, get_or-drop}
use borrow.Author.Tests.{eq-eqb, ne_eqb}
use Rattle.laws.proofs.Numbers.{dec_eq, lt_or_le}
use Rattle.answers.specs.declared.AnswerRow.{AnswerRow}
use Rattle.answers.specs.Answer.{answer_row_at, no_answer_row, width_in_rows, high_bit}
use Rattle.answers.specs.inner.Orderly.{Orderly}
use Rattle.homes.specs.inner.Homes.{width_on}

-- a variable that no row has
none_wide : (rows : List AnswerRow) (v : ℕ) → ((k : ℕ) → k < length rows → (answer_row_at rows k).variable ≢ v) → width_in_rows rows v ≡ 0
unfolding width_in_rows
none_wide [] v h = refl
none_wide (r ∷ rows) v h = rw (ne_eqb r.variable v (h 0 (omega arith))) (omega (arith, none_wide rows v (λ k l. h (suc k) (omega arith))))

module _ (rows : List AnswerRow) (o : Orderly rows) (i : ℕ) (l : i < length rows) where
  abbrev r : AnswerRow
  r = answer_row_at rows i

  one_more : (v : ℕ) → width_in_rows (drop i rows) v ≡ cond (eqb (answer_row_at rows i).variable v) (answer_row_at rows i).width 0 + width_in_rows (drop (suc i) rows) v
  unfolding width_in_rows
  one_more v = ap (λ (x : List AnswerRow). width_in_rows x v) (drop-cons rows i no_answer_row l)

  own_more : width_in_rows (drop i rows) (answer_row_at rows i).variable ≡ (answer_row_at rows i).width + width_in_rows (drop (suc i) rows) (answer_row_at rows i).variable
  own_more = one_more r.variable ∙ rw (eq-eqb r.variable r.variable refl)

  -- behind the last row of a variable there is none of it
  last-row : (variable : ℕ) → (suc i < length rows → variable ≡ (answer_row_at rows (suc i)).variable) → r.variable ≢ variable → width_in_rows (drop (suc i) rows) r.variable ≡ 0
  last-row variable q n = go (lt_or_le (suc i) (length rows))
    where
      go : (suc i < length rows) ⊎ (length rows ≤ suc i) → width_in_rows (drop (suc i) rows) r.variable ≡ 0
      go (inr h) = ap (λ (x : List AnswerRow). width_in_rows x r.variable) (drop_of_length-le rows {i = suc i} h) ∙ unfold width_in_rows in refl
      go (inl h) =
          none_wide (drop (suc i) rows) r.variable (λ k m e.
          let a : answer_row_at (drop (suc i) rows) k ≡ answer_row_at rows (suc i + k) = get_or-drop (suc i) rows k no_answer_row in
          let b : (answer_row_at rows (suc i + k)).variable ≡ r.variable = ap (λ (x : AnswerRow). x.variable) (sym a) ∙ e in
          n (omega (arith, q h, o.rising i (suc i) (omega arith) h, o.rising (suc i) (suc i + k) (omega arith) (omega (arith, m, length-drop (suc i) rows)), b)))

  -- one row more
  pub width_next : (passed variable : ℕ) → passed ≡ width_in_rows (drop (suc i) rows) variable → (suc i < length rows → variable ≡ (answer_row_at rows (suc i)).variable)
      → width_on passed variable (answer_row_at rows i) ≡ width_in_rows (drop i rows) (answer_row_at rows i).variable
  unfolding width_on
  width_next passed variable p q = go (dec_eq r.variable variable)
    where
      go : (r.variable ≡ variable) ⊎ (r.variable ≢ variable) → cond (eqb r.variable variable) ((passed + r.width) % 65536) r.width ≡ width_in_rows (drop i rows) r.variable
      go (inl e) =
          let a : width_in_rows (drop (suc i) rows) r.variable ≡ passed = ap (width_in_rows (drop (suc i) rows)) e ∙ sym p in
          rw (eq-eqb r.variable variable e) (omega (arith, own_more, o.short i r.variable, a))
      go (inr e) = rw (ne_eqb r.variable variable e) (omega (arith, own_more, last-row variable q e))

  pub high_next : (passed : ℕ) → passed ≡ width_in_rows (drop i rows) (answer_row_at rows i).variable → (high : ℕ) → high ≡ passed - 1 → high ≡ high_bit rows i
  unfolding high_bit
  high_next passed p high h = h ∙ ap (λ (x : ℕ). x - 1) p

-- behind all rows
pub none_passed : (rows : List AnswerRow) (n v : ℕ) → n ≡ length rows → 0 ≡ width_in_rows (drop n rows) v
none_passed rows n v e = sym (ap (λ (x : List AnswerRow). width_in_rows x v) (drop_of_length-le rows {i = n} (omega arith)) ∙ unfold width_in_rows in refl)
