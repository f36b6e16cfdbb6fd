-- What the right side of a variable is (document 01): a part of the rows in use, of whole rows, each of that variable, the first
-- such run and all of it.
use mathlib.Core.Bool.{Bool, true, false, cond}
use mathlib.Core.Path.{◌≡◌, refl, sym, ◌∙◌, ap, ap₂}
use mathlib.Core.List.{List, []}
use Prim.Native.Nat.{ℕ, ◌+◌, ◌*◌, ◌/◌, ◌%◌, ◌<◌, ◌≤◌}
use native.Mathlib.Omega.{arith}
use borrow.Author.Tests.{lt-ltb, le-ltb, ltb-true, ltb-false, eq-eqb, ne_eqb, eqb-true, eqb-false}
use lib.Dec.{eqb, ltb}
use lib.ListN.{length, get_or, take, drop, length-drop}
use lib.Seq.{length-take-le, get_or-take, get_or-drop}
use Rattle.answers.specs.RightSide.{row_variables, variables_in_use, rows_before, rows_on, run_rows, right_side_length, right_side_start, right_side}
use Rattle.answers.proofs.AnswerNumbers.{variables_length, variable_number, variables_take}
use Rattle.answers.proofs.Runs.{before_le, before_none, on_each, on_next, run_le, run_found}

module _ (answer : List ℕ) (rows : ℕ) where
  -- the rows in use: the first ones lent, or none
  pub in_use : rows ≤ length answer / 6 → variables_in_use answer rows ≡ take rows (row_variables answer)
  unfolding variables_in_use
  in_use h = rw (le-ltb (length (row_variables answer)) rows (omega (arith, variables_length answer)))

  pub none_in_use : length answer / 6 < rows → variables_in_use answer rows ≡ []
  unfolding variables_in_use
  none_in_use h = rw (lt-ltb (length (row_variables answer)) rows (omega (arith, variables_length answer)))

  pub in_use_length : rows ≤ length answer / 6 → length (variables_in_use answer rows) ≡ rows
  in_use_length h = ap length (in_use h) ∙ length-take-le rows (row_variables answer) (omega (arith, variables_length answer))

  -- the variable of a row in use is its first number
  pub in_use_at : rows ≤ length answer / 6 → (r : ℕ) → r < rows → get_or (variables_in_use answer rows) r 0 ≡ get_or answer (r * 6) 0
  in_use_at h r less =
      ap (λ (l : List ℕ). get_or l r 0) (in_use h) ∙ get_or-take rows (row_variables answer) r 0 less ∙ variable_number answer r (omega arith)

  -- rows in use are whole rows lent, or there are none
  pub in_use_fit : 6 * length (variables_in_use answer rows) ≤ length answer
  unfolding variables_in_use
  in_use_fit = go (ltb (length (row_variables answer)) rows) refl where
    go : (t : Bool) → ltb (length (row_variables answer)) rows ≡ t → 6 * length (cond t [] (take rows (row_variables answer))) ≤ length answer
    go true q = omega arith
    go false q =
        let h : rows ≤ length (row_variables answer) = ltb-false (length (row_variables answer)) rows q in
        omega (arith, length-take-le rows (row_variables answer) h, variables_length answer)

  module _ (v : ℕ) where
    -- what the two functions count over the numbers of the rows in use is what the definitions count
    pub counts : (first count : ℕ) → rows ≤ length answer / 6 → first ≡ rows_before v (row_variables (take (rows * 6) answer))
        → count ≡ rows_on v (drop first (row_variables (take (rows * 6) answer)))
        → (first ≡ rows_before v (variables_in_use answer rows)) × (count ≡ run_rows v (variables_in_use answer rows))
    unfolding run_rows
    counts first count h f k =
        let u : row_variables (take (rows * 6) answer) ≡ variables_in_use answer rows = variables_take answer rows h ∙ sym (in_use h) in
        let e : first ≡ rows_before v (variables_in_use answer rows) = f ∙ ap (rows_before v) u in
        (e, k ∙ ap₂ (λ (n : ℕ) (l : List ℕ). rows_on v (drop n l)) e u)

    -- its length, its start where it is empty and where it is not, and that it is empty if the rows in use exceed those lent
    pub length_is : right_side_length answer rows v ≡ 6 * run_rows v (variables_in_use answer rows)
    unfolding right_side_length
    length_is = refl

    pub start_empty : right_side_length answer rows v ≡ 0 → right_side_start answer rows v ≡ 0
    unfolding right_side_start
    start_empty e = rw (eq-eqb (right_side_length answer rows v) 0 e)

    pub start_is : (right_side_length answer rows v ≡ 0 → ⊥) → right_side_start answer rows v ≡ 6 * rows_before v (variables_in_use answer rows)
    unfolding right_side_start
    start_is n = rw (ne_eqb (right_side_length answer rows v) 0 n)

    pub empty_past : length answer / 6 < rows → right_side_length answer rows v ≡ 0
    unfolding run_rows rows_before rows_on
    empty_past h = length_is ∙ ap (λ (l : List ℕ). 6 * run_rows v l) (none_in_use h)

    -- it is empty or not
    either : {A : Type 0} → (right_side_length answer rows v ≡ 0 → A) → ((right_side_length answer rows v ≡ 0 → ⊥) → A) → A
    either {A} f g = go (eqb (right_side_length answer rows v) 0) refl where
      go : (t : Bool) → eqb (right_side_length answer rows v) 0 ≡ t → A
      go true q = f (eqb-true (right_side_length answer rows v) 0 q)
      go false q = g (eqb-false (right_side_length answer rows v) 0 q)

    within_used : right_side_start answer rows v + right_side_length answer rows v ≤ 6 * length (variables_in_use answer rows)
    within_used =
        either (λ e. omega (arith, start_empty e))
        (λ n. omega (arith, start_is n, length_is, run_le v (variables_in_use answer rows)))

    -- the part lies within the table lent
    pub part_lent : right_side_start answer rows v + right_side_length answer rows v ≤ length answer
    part_lent = omega (arith, within_used, in_use_fit)

    -- it lies within the rows in use
    pub part_in_use : rows ≤ length answer / 6 → right_side_start answer rows v + right_side_length answer rows v ≤ 6 * rows
    part_in_use h = omega (arith, within_used, in_use_length h)

    -- it is whole rows, from the start of a row on
    pub part_whole : (right_side_start answer rows v % 6 ≡ 0) × (right_side_length answer rows v % 6 ≡ 0)
    part_whole = (either (λ e. omega (arith, start_empty e)) (λ n. omega (arith, start_is n)), omega (arith, length_is))

    -- where it has rows, the rows in use are whole rows lent
    few : (right_side_length answer rows v ≡ 0 → ⊥) → rows ≤ length answer / 6
    few n = go (ltb (length answer / 6) rows) refl where
      go : (t : Bool) → ltb (length answer / 6) rows ≡ t → rows ≤ length answer / 6
      go true q = absurd (n (empty_past (ltb-true (length answer / 6) rows q)))
      go false q = ltb-false (length answer / 6) rows q

    -- each row of it is of that variable
    pub part_of_variable : (k : ℕ) → k * 6 < right_side_length answer rows v → get_or (right_side answer rows v) (k * 6) 0 ≡ v
    unfolding right_side run_rows
    part_of_variable k h =
        let b = rows_before v (variables_in_use answer rows) in
        let n : right_side_length answer rows v ≡ 0 → ⊥ = λ e. omega arith in
        let e : right_side_start answer rows v + k * 6 ≡ (b + k) * 6 = omega (arith, start_is n) in
        let less : b + k < rows = omega (arith, length_is, run_le v (variables_in_use answer rows), in_use_length (few n)) in
        get_or-take (right_side_length answer rows v) (drop (right_side_start answer rows v) answer) (k * 6) 0 h
        ∙ get_or-drop (right_side_start answer rows v) answer (k * 6) 0
        ∙ ap (λ (i : ℕ). get_or answer i 0) e
        ∙ sym (in_use_at (few n) (b + k) less)
        ∙ sym (get_or-drop b (variables_in_use answer rows) k 0)
        ∙ on_each v (drop b (variables_in_use answer rows)) k (omega (arith, length_is))

    -- if it is empty, no row in use is of that variable
    pub part_empty : rows ≤ length answer / 6 → right_side_length answer rows v ≡ 0 → (r : ℕ) → r < rows → get_or answer (r * 6) 0 ≡ v → ⊥
    part_empty h e r less is = go (ltb (rows_before v (variables_in_use answer rows)) rows) refl where
      go : (t : Bool) → ltb (rows_before v (variables_in_use answer rows)) rows ≡ t → ⊥
      go true q =
          omega (arith, e, length_is, run_found v (variables_in_use answer rows) (omega (arith, in_use_length h, ltb-true (rows_before v (variables_in_use answer rows)) rows q)))
      go false q =
          before_none v (variables_in_use answer rows) r (omega (arith, less, ltb-false (rows_before v (variables_in_use answer rows)) rows q)) (in_use_at h r less ∙ is)

    -- no row before it is of that variable
    pub part_first : (r : ℕ) → r * 6 < right_side_start answer rows v → get_or answer (r * 6) 0 ≡ v → ⊥
    part_first r h is =
        let n : right_side_length answer rows v ≡ 0 → ⊥ = λ e. omega (arith, start_empty e) in
        let less : r < rows_before v (variables_in_use answer rows) = omega (arith, start_is n) in
        before_none v (variables_in_use answer rows) r less
        (in_use_at (few n) r (omega (arith, in_use_length (few n), before_le v (variables_in_use answer rows))) ∙ is)

    -- nor is the row behind it, if that is in use
    pub part_ends : (right_side_length answer rows v ≡ 0 → ⊥) → right_side_start answer rows v + right_side_length answer rows v < 6 * rows
        → get_or answer (right_side_start answer rows v + right_side_length answer rows v) 0 ≡ v → ⊥
    unfolding run_rows
    part_ends n h is =
        let used = variables_in_use answer rows in
        let b = rows_before v used in
        let m = rows_on v (drop b used) in
        let e : right_side_start answer rows v + right_side_length answer rows v ≡ (b + m) * 6 = omega (arith, start_is n, length_is) in
        let less : b + m < rows = omega arith in
        on_next v (drop b used) (omega (arith, length-drop b used, in_use_length (few n)))
        (get_or-drop b used m 0 ∙ in_use_at (few n) (b + m) less ∙ ap (λ (i : ℕ). get_or answer i 0) (sym e) ∙ is)
