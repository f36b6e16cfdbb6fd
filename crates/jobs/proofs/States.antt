-- (a) The states of a job: after k steps that of equation k's row as long as a pattern is left, and else that of a never. Assumes nothing.
use mathlib.Core.Path.{◌≡◌, refl, sym, ◌∙◌, ap}
use mathlib.Core.Bool.{Bool, true, false, ◌||◌, or-true}
use mathlib.Core.List.{List}
use mathlib.Core.Logic.{⊎_elim}
use Prim.Native.Nat.{ℕ, zero, suc, ◌<◌, ◌≤◌}
use native.Mathlib.Omega.{arith}
use lib.Dec.{eqb, leb}
use lib.ListN.{length}
use borrow.Author.Tests.{eq-eqb, ne_eqb, le-leb, lt-leb}
use Rattle.laws.proofs.Bools.{not_both}
use Rattle.laws.proofs.Numbers.{lt_or_le}
use Rattle.terms.specs.declared.Row.{Row}
use Rattle.terms.specs.Table.{rows_of}
use Rattle.terms.specs.Faults.{Accepted, first_fault}
use Rattle.terms.specs.Counting.{NoLines}
use Rattle.terms.proofs.AcceptedTable.{accepted_table}
use Rattle.answers.specs.Solve.{unsatisfiable, unsat_row, ties_to}
use Rattle.answers.specs.inner.Classes.{conflict_at}
use Rattle.jobs.specs.Prefix.{up_to, equation_from, holders}
use Rattle.jobs.specs.State.{State, state_at, opened, stepped, state_after, never_row}
use Rattle.jobs.specs.Claims.{equation_row, never_state, StateIs}
use Rattle.jobs.proofs.Prefix.{up_next}
use Rattle.jobs.proofs.PrefixPairs.{up_left}
use Rattle.jobs.proofs.Meeting.{left_before, some_left, none_never, lost_at, unsat_row_is}
use Rattle.jobs.proofs.EquationRows.{row-first, row_step, row_past, row_last, row_within, row_equation}

-- a step goes on from a row of the table
going : (t : List Row) → length t ≤ 512 → (r : ℕ) → r < length t → eqb r never_row || leb (length t) r ≡ false
going t few r l = rw (ne_eqb r 1000 (omega arith), lt-leb (length t) r l)

module _ (table : List ℕ) (accepted : first_fault table ≡ Accepted) (none : NoLines (rows_of table)) where
  abbrev t : List Row
  t = rows_of table

  few : length t ≤ 512
  few = (accepted_table table accepted).few

  -- with no equation taken a pattern is left
  pub first_left : unsatisfiable (up_to 0 (rows_of table)) ≡ false
  unfolding conflict_at
  first_left = up_left table accepted none 0 (omega arith) refl

  -- a pattern is left behind equation k exactly if it is left before equation k + 1
  behind : (k : ℕ) → equation_row t k < length t → unsatisfiable (up_to (equation_row t (suc k)) t) ≡ unsatisfiable (up_to (suc (equation_row t k)) t)
  behind k l = ap (λ (r : ℕ). unsatisfiable (up_to r t)) (row_step t k l) ∙ ap unsatisfiable (up_next t (suc (equation_row t k)) (omega arith))

  ended : (k : ℕ) → length t ≤ equation_row t k → equation_row t (suc k) ≡ equation_row t k
  ended k l =
      let e : equation_row t k ≡ length t = omega (arith, row_within t k) in
      row_past t (suc k) (omega (arith, row_last t k e)) ∙ sym e

  pub state_left : (k : ℕ) → unsatisfiable (up_to (equation_row (rows_of table) k) (rows_of table)) ≡ false → state_after (rows_of table) k ≡ state_at (rows_of table) (equation_row (rows_of table) k)
  unfolding state_after opened stepped state_at
  state_left zero h = ap (state_at t) (sym (row-first t))
  state_left (suc k) h = ⊎_elim (on (state_left k)) (end (state_left k)) (lt_or_le (equation_row t k) (length t))
    where
      on : (unsatisfiable (up_to (equation_row t k) t) ≡ false → state_after t k ≡ state_at t (equation_row t k))
          → equation_row t k < length t → stepped t (state_after t k) ≡ state_at t (equation_row t (suc k))
      on before l =
          let more : unsatisfiable (up_to (suc (equation_row t k)) t) ≡ false = sym (behind k l) ∙ h in
          ap (stepped t) (before (left_before t none (equation_row t k) (suc (equation_row t k)) (omega arith) more))
          ∙ rw (going t few (equation_row t k) l, more) (ap (state_at t) (sym (row_step t k l)))

      end : (unsatisfiable (up_to (equation_row t k) t) ≡ false → state_after t k ≡ state_at t (equation_row t k))
          → length t ≤ equation_row t k → stepped t (state_after t k) ≡ state_at t (equation_row t (suc k))
      end before l =
          ap (stepped t) (before (ap (λ (r : ℕ). unsatisfiable (up_to r t)) (sym (ended k l)) ∙ h))
          ∙ rw (le-leb (length t) (equation_row t k) l, or-true (eqb (equation_row t k) 1000)) (ap (state_at t) (sym (ended k l)))

  pub state_never : (k : ℕ) → unsatisfiable (up_to (equation_row (rows_of table) k) (rows_of table)) ≡ true → state_after (rows_of table) k ≡ never_state (rows_of table)
  unfolding state_after stepped state_at
  state_never zero h = absurd (not_both h (ap (λ (r : ℕ). unsatisfiable (up_to r t)) (row-first t) ∙ ap unsatisfiable (up_next t 0 (omega arith)) ∙ first_left))
  state_never (suc k) h = go (unsatisfiable (up_to (equation_row t k) t)) refl (state_never k)
    where
      go : (b : Bool) → unsatisfiable (up_to (equation_row t k) t) ≡ b → (unsatisfiable (up_to (equation_row t k) t) ≡ true → state_after t k ≡ never_state t)
          → stepped t (state_after t k) ≡ never_state t
      go true e before = ap (stepped t) (before e) ∙ refl
      go false e before = ⊎_elim lost (λ l. absurd (not_both h (ap (λ (r : ℕ). unsatisfiable (up_to r t)) (ended k l) ∙ e))) (lt_or_le (equation_row t k) (length t))
        where
          lost : equation_row t k < length t → stepped t (state_after t k) ≡ never_state t
          lost l =
              let more : unsatisfiable (up_to (suc (equation_row t k)) t) ≡ true = sym (behind k l) ∙ h in
              let row : unsat_row t ≡ equation_row t k = unsat_row_is t none (equation_row t k) (lost_at t none (equation_row t k) l (row_equation t k l) e more) in
              ap (stepped t) (state_left k e)
              ∙ rw (going t few (equation_row t k) l, more)
              (ap (λ (r : ℕ). record { next = never_row; ties = ties_to t r; holders = holders (up_to r t) }) (sym row))

  -- (a)
  pub state_is : (k : ℕ) → StateIs (rows_of table) k
  state_is k =
      record {
        left = λ some. state_left k (some_left t none (equation_row t k) some);
        never = λ lacks. state_never k (none_never t none (equation_row t k) lacks);
      }

-- ---- one step
module _ (t : List Row) (s : State) where
  pub step_never : s.next ≡ never_row → stepped t s ≡ s
  unfolding stepped
  step_never e = rw (eq-eqb s.next 1000 e)

  pub step_end : length t ≤ s.next → stepped t s ≡ s
  unfolding stepped
  step_end l = rw (le-leb (length t) s.next l, or-true (eqb s.next 1000))

  module _ (few : length t ≤ 512) (l : s.next < length t) where
    pub step_on : unsatisfiable (up_to (suc s.next) t) ≡ false → stepped t s ≡ state_at t (equation_from t (suc s.next))
    unfolding stepped
    step_on h = rw (going t few s.next l, h)

    pub step_lost : unsatisfiable (up_to (suc s.next) t) ≡ true → stepped t s ≡ record { next = never_row; ties = s.ties; holders = s.holders }
    unfolding stepped
    step_lost h = rw (going t few s.next l, h)
