-- The first run of a variable among rows: how the two counts go on from row to row, their bounds, and what stands in the rows counted.
use mathlib.Core.Bool.{Bool, true, false, cond}
use mathlib.Core.Path.{◌≡◌, refl, sym, ◌∙◌, ap}
use mathlib.Core.List.{List, [], ◌∷◌}
use Prim.Native.Nat.{ℕ, zero, suc, ◌+◌, ◌/◌, ◌<◌, ◌≤◌}
use native.Mathlib.Numerals.{add-one}
use native.Mathlib.Omega.{arith}
use borrow.Author.Tests.{eq-eqb, ne_eqb, eqb-true, eqb-false}
use lib.Dec.{eqb}
use lib.ListN.{length, get_or, drop, length-drop, drop_of_length-le}
use lib.Seq.{drop-cons}
use Rattle.answers.specs.declared.AnswerRow.{AnswerRow}
use Rattle.answers.specs.RightSide.{row_variables, rows_before, rows_on, run_rows}
use Rattle.answers.proofs.AnswerNumbers.{variables_length, variable-at}
use Rattle.answers.specs.Answer.{answer_row_at, answer_rows_of}

module _ (v : ℕ) where
  -- the rows that a search passes, the row at which it ends, and the end of the rows
  pub before_passed : (vs : List ℕ) (i : ℕ) → i < length vs → (get_or vs i 0 ≡ v → ⊥)
      → rows_before v (drop i vs) ≡ suc (rows_before v (drop (suc i) vs))
  unfolding rows_before
  before_passed vs i h n = rw (drop-cons vs i 0 h, ne_eqb (get_or vs i 0) v n)

  pub before_found : (vs : List ℕ) (i : ℕ) → i < length vs → get_or vs i 0 ≡ v → rows_before v (drop i vs) ≡ 0
  unfolding rows_before
  before_found vs i h e = rw (drop-cons vs i 0 h, eq-eqb (get_or vs i 0) v e)

  pub before_end : (vs : List ℕ) (i : ℕ) → length vs ≤ i → rows_before v (drop i vs) ≡ 0
  unfolding rows_before
  before_end vs i h = rw (drop_of_length-le vs h)

  -- the same of going on
  pub on_passed : (vs : List ℕ) (i : ℕ) → i < length vs → get_or vs i 0 ≡ v → rows_on v (drop i vs) ≡ suc (rows_on v (drop (suc i) vs))
  unfolding rows_on
  on_passed vs i h e = rw (drop-cons vs i 0 h, eq-eqb (get_or vs i 0) v e)

  pub on_stopped : (vs : List ℕ) (i : ℕ) → i < length vs → (get_or vs i 0 ≡ v → ⊥) → rows_on v (drop i vs) ≡ 0
  unfolding rows_on
  on_stopped vs i h n = rw (drop-cons vs i 0 h, ne_eqb (get_or vs i 0) v n)

  pub on_end : (vs : List ℕ) (i : ℕ) → length vs ≤ i → rows_on v (drop i vs) ≡ 0
  unfolding rows_on
  on_end vs i h = rw (drop_of_length-le vs h)

  -- bounds
  before_step : (t : Bool) (a n : ℕ) → a ≤ n → cond t 0 (suc a) ≤ suc n
  before_step true a n h = omega arith
  before_step false a n h = omega arith

  pub before_le : (vs : List ℕ) → rows_before v vs ≤ length vs
  unfolding rows_before
  before_le [] = omega arith
  before_le (x ∷ vs) = before_step (eqb x v) (rows_before v vs) (length vs) (before_le vs)

  on_step : (t : Bool) (a n : ℕ) → a ≤ n → cond t (suc a) 0 ≤ suc n
  on_step true a n h = omega arith
  on_step false a n h = omega arith

  pub on_le : (vs : List ℕ) → rows_on v vs ≤ length vs
  unfolding rows_on
  on_le [] = omega arith
  on_le (x ∷ vs) = on_step (eqb x v) (rows_on v vs) (length vs) (on_le vs)

  pub run_le : (vs : List ℕ) → rows_before v vs + run_rows v vs ≤ length vs
  unfolding run_rows
  run_le vs = omega (arith, before_le vs, on_le (drop (rows_before v vs) vs), length-drop (rows_before v vs) vs)

  -- no row before the first of the variable is of it; the row found is
  pub before_none : (vs : List ℕ) (k : ℕ) → k < rows_before v vs → get_or vs k 0 ≡ v → ⊥
  unfolding rows_before
  before_none [] k h e = omega arith
  before_none (x ∷ vs) k h e = go (eqb x v) refl k h e (before_none vs) where
    go : (t : Bool) → eqb x v ≡ t → (k : ℕ) → k < cond t 0 (suc (rows_before v vs)) → get_or (x ∷ vs) k 0 ≡ v
        → ((k : ℕ) → k < rows_before v vs → get_or vs k 0 ≡ v → ⊥) → ⊥
    go true q k h e more = omega arith
    go false q zero h e more = eqb-false x v q e
    go false q (suc k) h e more = more k (omega arith) e

  pub before_is : (vs : List ℕ) → rows_before v vs < length vs → get_or vs (rows_before v vs) 0 ≡ v
  unfolding rows_before
  before_is [] h = absurd (omega arith)
  before_is (x ∷ vs) h = go (eqb x v) refl h (before_is vs) where
    go : (t : Bool) → eqb x v ≡ t → cond t 0 (suc (rows_before v vs)) < suc (length vs)
        → (rows_before v vs < length vs → get_or vs (rows_before v vs) 0 ≡ v) → get_or (x ∷ vs) (cond t 0 (suc (rows_before v vs))) 0 ≡ v
    go true q h more = eqb-true x v q
    go false q h more = more (omega arith)

  -- each row counted in going on is of the variable; the next is not
  pub on_each : (vs : List ℕ) (k : ℕ) → k < rows_on v vs → get_or vs k 0 ≡ v
  unfolding rows_on
  on_each [] k h = absurd (omega arith)
  on_each (x ∷ vs) k h = go (eqb x v) refl k h (on_each vs) where
    go : (t : Bool) → eqb x v ≡ t → (k : ℕ) → k < cond t (suc (rows_on v vs)) 0 → ((k : ℕ) → k < rows_on v vs → get_or vs k 0 ≡ v)
        → get_or (x ∷ vs) k 0 ≡ v
    go true q zero h more = eqb-true x v q
    go true q (suc k) h more = more k (omega arith)
    go false q k h more = absurd (omega arith)

  pub on_next : (vs : List ℕ) → rows_on v vs < length vs → get_or vs (rows_on v vs) 0 ≡ v → ⊥
  unfolding rows_on
  on_next [] h e = omega arith
  on_next (x ∷ vs) h e = go (eqb x v) refl h e (on_next vs) where
    go : (t : Bool) → eqb x v ≡ t → cond t (suc (rows_on v vs)) 0 < suc (length vs) → get_or (x ∷ vs) (cond t (suc (rows_on v vs)) 0) 0 ≡ v
        → (rows_on v vs < length vs → get_or vs (rows_on v vs) 0 ≡ v → ⊥) → ⊥
    go true q h e more = more (omega arith) e
    go false q h e more = eqb-false x v q e

  -- a row found is a run of at least one
  pub run_found : (vs : List ℕ) → rows_before v vs < length vs → 0 < run_rows v vs
  unfolding run_rows
  run_found vs h = omega (arith, on_passed vs (rows_before v vs) h (before_is vs h))

  -- one row more passed, over the rows of an answer table: what is counted, with what the rest gives, stays the same
  module _ (t : List ℕ) (i : ℕ) (h : i < length t / 6) (row : AnswerRow) (read : row ≡ answer_row_at (answer_rows_of t) i) where
    here : get_or (row_variables t) i 0 ≡ row.variable
    here = variable-at t i ∙ ap (λ (r : AnswerRow). r.variable) (sym read)

    within : i < length (row_variables t)
    within = omega (arith, variables_length t)

    pub first_goes : (row.variable ≡ v → ⊥) → i + rows_before v (drop i (row_variables t)) ≡ rows_before v (row_variables t)
        → i + 1 + rows_before v (drop (i + 1) (row_variables t)) ≡ rows_before v (row_variables t)
    first_goes n e = rw add-one (omega (arith, before_passed (row_variables t) i within (λ q. n (sym here ∙ q))))

    pub first_found : row.variable ≡ v → i + rows_before v (drop i (row_variables t)) ≡ rows_before v (row_variables t) → i ≡ rows_before v (row_variables t)
    first_found q e = omega (arith, before_found (row_variables t) i within (here ∙ q))

    pub on_goes : (first : ℕ) → row.variable ≡ v → i + rows_on v (drop i (row_variables t)) ≡ first + rows_on v (drop first (row_variables t))
        → i + 1 + rows_on v (drop (i + 1) (row_variables t)) ≡ first + rows_on v (drop first (row_variables t))
    on_goes first q e = rw add-one (omega (arith, on_passed (row_variables t) i within (here ∙ q)))

    pub on_ends : (first : ℕ) → (row.variable ≡ v → ⊥) → i + rows_on v (drop i (row_variables t)) ≡ first + rows_on v (drop first (row_variables t))
        → i ≡ first + rows_on v (drop first (row_variables t))
    on_ends first n e = omega (arith, on_stopped (row_variables t) i within (λ q. n (sym here ∙ q)))
