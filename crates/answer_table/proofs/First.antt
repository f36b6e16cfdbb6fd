-- What the search for a variable's first row tells: where the first row is, or that there is none.
use Rattle.std.proofs.Common.{◌≡◌, refl, ap, Bool, true, false, cond, List, ℕ, ◌*◌, ◌/◌, ◌<◌, ◌≤◌, length, take, drop, Some, None, arith}
use borrow.Author.Tests.{ltb-true, ltb-false}
use lib.Dec.{ltb}
use Rattle.answers.specs.RightSide.{row_variables, variables_in_use, rows_before, rows_on, run_rows, right_side_length}
use Rattle.answers.proofs.Runs.{on_end, run_found}
use Rattle.answers.proofs.RightSide.{counts, length_is}
use Rattle.answer_table.specs.inner.Rows.{first_of}

module _ (v : ℕ) (vs : List ℕ) where
  pub first_some : (i : ℕ) → first_of v vs ≡ Some i → (i ≡ rows_before v vs) × (i < length vs)
  unfolding first_of
  first_some i e = go (ltb (rows_before v vs) (length vs)) refl e where
    go : (t : Bool) → ltb (rows_before v vs) (length vs) ≡ t → cond t (Some (rows_before v vs)) None ≡ Some i → (i ≡ rows_before v vs) × (i < length vs)
    go true q e =
        let f : i ≡ rows_before v vs = cc in
        (f, omega (arith, f, ltb-true (rows_before v vs) (length vs) q))
    go false q e = absurd cc

  pub on_run : (first : ℕ) → first ≡ rows_before v vs → rows_on v (drop first vs) ≡ run_rows v vs
  unfolding run_rows
  on_run first e = ap (λ (i : ℕ). rows_on v (drop i vs)) e

  pub first_none : first_of v vs ≡ None → length vs ≤ rows_before v vs
  unfolding first_of
  first_none e = go (ltb (rows_before v vs) (length vs)) refl e where
    go : (t : Bool) → ltb (rows_before v vs) (length vs) ≡ t → cond t (Some (rows_before v vs)) None ≡ None → length vs ≤ rows_before v vs
    go true q e = absurd cc
    go false q e = ltb-false (rows_before v vs) (length vs) q

-- the same over the rows in use, whose numbers are the first of the table
module _ (answer : List ℕ) (rows v : ℕ) where
  pub empty_none : rows ≤ length answer / 6 → first_of v (row_variables (take (rows * 6) answer)) ≡ None → right_side_length answer rows v ≡ 0
  unfolding run_rows
  empty_none h e =
      let vs = row_variables (take (rows * 6) answer) in
      let k = counts answer rows v _ _ h refl refl in
      omega (arith, length_is answer rows v, k.1, on_end v vs (rows_before v vs) (first_none v vs e))

  pub run_is : (first count : ℕ) → rows ≤ length answer / 6 → first_of v (row_variables (take (rows * 6) answer)) ≡ Some first
      → count ≡ rows_on v (drop first (row_variables (take (rows * 6) answer)))
      → (first ≡ rows_before v (variables_in_use answer rows)) × (count ≡ run_rows v (variables_in_use answer rows)) × (0 < count)
  run_is first count h e n =
      let vs = row_variables (take (rows * 6) answer) in
      let f = first_some v vs first e in
      let k = counts answer rows v first count h f.0 n in
      let positive : 0 < run_rows v vs = run_found v vs (omega (arith, f.0, f.1)) in
      (k.0, k.1, omega (arith, n, on_run v vs first f.0, positive))
