-- Which jobs and work areas are states: at a row, the next one is that of an equation or the number of rows, a pattern is left, and ties and area are those of the
-- equations before it; after a never they are those of the equations before that of the never. Assumes nothing.
use mathlib.Core.Path.{◌≡◌, refl, sym, ◌∙◌, ap}
use mathlib.Core.Bool.{Bool, true, false, not, ◌&&◌}
use mathlib.Core.List.{List, [], ◌∷◌}
use mathlib.Core.Logic.{◌≢◌, ⊎_elim}
use Prim.Native.Nat.{ℕ, zero, suc, ◌+◌, ◌-◌, ◌<◌, ◌≤◌}
use native.Mathlib.Omega.{arith}
use lib.Dec.{eqb}
use lib.ListN.{length}
use borrow.Author.Tests.{eqb-true, eq-eqb, not-true, not-false}
use Rattle.laws.specs.Lists.{below}
use Rattle.laws.proofs.Bools.{not_both, and_parts, one_most}
use Rattle.laws.proofs.Numbers.{lt_or_le}
use Rattle.laws.proofs.Tallies.{below_fails}
use Rattle.terms.specs.declared.Row.{Row}
use Rattle.terms.specs.Acceptance.{Exactly}
use Rattle.terms.specs.Table.{rows_of, count_kind, same_word}
use Rattle.terms.specs.Faults.{Accepted, first_fault}
use Rattle.terms.specs.Counting.{NoLines}
use Rattle.terms.proofs.AcceptedTable.{accepted_table}
use Rattle.terms.proofs.NextEquation.{next_found, next_end}
use Rattle.terms.proofs.Satisfies.{same-word, word_same}
use Rattle.answers.specs.Solve.{unsatisfiable, unsat_row, ties_to}
use Rattle.jobs.specs.Prefix.{up_to, equation_from, holders}
use Rattle.jobs.specs.State.{State, state_at, stepped, state_after, area_of, is_state, reachable, never_row}
use Rattle.jobs.specs.Claims.{equation_row, never_state}
use Rattle.jobs.proofs.Prefix.{up_past}
use Rattle.jobs.proofs.Meeting.{whole_never}
use Rattle.jobs.proofs.EquationRows.{before, next_is, row_of, row_within, row_equation, row_past}
use Rattle.jobs.proofs.States.{step_never, step_end, state_left, state_never}

-- ---- a search below a bound
below_false : (n : ℕ) (f : ℕ → Bool) → below n f ≡ false → (k : ℕ) × (k < n) × (f k ≡ false)
unfolding below
below_false zero f h = absurd (not_both refl h)
below_false (suc n) f h = go (f n) refl h (below_false n f)
  where
    go : (b : Bool) → f n ≡ b → b && below n f ≡ false → (below n f ≡ false → (k : ℕ) × (k < n) × (f k ≡ false)) → (k : ℕ) × (k < suc n) × (f k ≡ false)
    go true e h r = let it = r h in (it.0, omega (arith, it.1), it.2)
    go false e h r = (n, omega arith, e)

some_below : (n : ℕ) (f : ℕ → Bool) (k : ℕ) → k < n → f k ≡ true → not (below n (λ j. not (f j))) ≡ true
some_below n f k l e = ap not (below_fails n (λ j. not (f j)) k l (ap not e))

-- ---- the numbers of a state
pub record Kept (s : State) (next ties : ℕ) (work : List ℕ) : Type 0 where
  pub next_is : s.next ≡ next
  pub ties_are : s.ties ≡ ties
  pub area_is : area_of (length work) s.holders ≡ work

state_to : (s : State) (next ties : ℕ) (work : List ℕ) → is_state s next ties work ≡ true → Kept s next ties work
unfolding is_state
state_to s next ties work h =
    let a = and_parts (eqb s.next next) (eqb s.ties ties && same_word (area_of (length work) s.holders) work) h in
    let b = and_parts (eqb s.ties ties) (same_word (area_of (length work) s.holders) work) a.1 in
    record { next_is = eqb-true s.next next a.0; ties_are = eqb-true s.ties ties b.0; area_is = same-word (area_of (length work) s.holders) work b.1 }

state-of : (s : State) (next ties : ℕ) (work : List ℕ) → Kept s next ties work → is_state s next ties work ≡ true
unfolding is_state
state-of s next ties work k =
    rw (eq-eqb s.next next k.next_is, eq-eqb s.ties ties k.ties_are, k.area_is) (word_same work)

-- no more equations than rows
few_equations : (t : List Row) → count_kind 4 t ≤ length t
unfolding count_kind
few_equations [] = omega arith
few_equations (r ∷ t) = omega (arith, few_equations t, one_most (eqb r.kind 4))

-- What is told of a job and a work area at a row, and after a never.
pub record AtRow (t : List Row) (next ties : ℕ) (work : List ℕ) : Type 0 where
  pub equation : equation_from t next ≡ next
  pub left : unsatisfiable (up_to next t) ≡ false
  pub ties_are : ties ≡ ties_to t next
  pub area_is : work ≡ area_of (length work) (holders (up_to next t))

pub record AtNever (t : List Row) (ties : ℕ) (work : List ℕ) : Type 0 where
  pub never : unsatisfiable t ≡ true
  pub ties_are : ties ≡ ties_to t (unsat_row t)
  pub area_is : work ≡ area_of (length work) (holders (up_to (unsat_row t) t))

module _ (table : List ℕ) (accepted : first_fault table ≡ Accepted) (none : NoLines (rows_of table)) where
  abbrev t : List Row
  t = rows_of table

  few : length t ≤ 512
  few = (accepted_table table accepted).few

  -- behind the last equation no step changes anything
  still : (k : ℕ) → count_kind 4 t ≤ k → state_after t (suc k) ≡ state_after t k
  unfolding state_after state_at
  still k l = go (unsatisfiable (up_to (equation_row t k) t)) refl
    where
      go : (b : Bool) → unsatisfiable (up_to (equation_row t k) t) ≡ b → stepped t (state_after t k) ≡ state_after t k
      go true e = let s = state_never table accepted none k e in rw s (step_never t (never_state t) refl)
      go false e = let s = state_left table accepted none k e in rw s (step_end t (state_at t (equation_row t k)) (omega (arith, row_past t k l)))

  stopped_at : (d : ℕ) → state_after t (length t + d) ≡ state_after t (length t)
  stopped_at zero = let e : length t + 0 ≡ length t = omega arith in ap (state_after t) e
  stopped_at (suc d) =
      let e : length t + suc d ≡ suc (length t + d) = omega arith in
      ap (state_after t) e ∙ still (length t + d) (omega (arith, few_equations t)) ∙ stopped_at d

  -- ---- any number of steps
  small : (k next ties : ℕ) (work : List ℕ) → k ≤ length t → Kept (state_after t k) next ties work → reachable t next ties work ≡ true
  unfolding reachable
  small k next ties work l s = some_below _ (λ j. is_state (state_after t j) next ties work) k (omega arith) (state-of (state_after t k) next ties work s)

  pub reach_of : (k next ties : ℕ) (work : List ℕ) → Kept (state_after (rows_of table) k) next ties work → reachable (rows_of table) next ties work ≡ true
  reach_of k next ties work s =
      ⊎_elim (λ l. small k next ties work (omega arith) s)
      (λ l.
      let e : length t + (k - length t) ≡ k = omega arith in
      let q : state_after t k ≡ state_after t (length t) = ap (state_after t) (sym e) ∙ stopped_at (k - length t) in
      small (length t) next ties work (omega arith) (rw q at s))
      (lt_or_le k (length t))

  pub reach_to : (next ties : ℕ) (work : List ℕ) → reachable (rows_of table) next ties work ≡ true → (k : ℕ) × Kept (state_after (rows_of table) k) next ties work
  unfolding reachable
  reach_to next ties work h =
      let it = below_false (suc (length t)) (λ k. not (is_state (state_after t k) next ties work)) (not-true (below (suc (length t)) (λ k. not (is_state (state_after t k) next ties work))) h) in
      (it.0, state_to (state_after t it.0) next ties work (not-false (is_state (state_after t it.0) next ties work) it.2))

  -- ---- at a row
  at_row : (k next ties : ℕ) (work : List ℕ) → next ≤ length t → Kept (state_after t k) next ties work → AtRow t next ties work
  unfolding state_at
  at_row k next ties work l s = go (unsatisfiable (up_to (equation_row t k) t)) refl
    where
      go : (b : Bool) → unsatisfiable (up_to (equation_row t k) t) ≡ b → AtRow t next ties work
      go true e = absurd (omega (arith, few, s.next_is, ap (λ (x : State). x.next) (state_never table accepted none k e)))
      go false e =
          let q = state_left table accepted none k e in
          let kept : Kept (state_at t (equation_row t k)) next ties work = rw q at s in
          let r : equation_row t k ≡ next = kept.next_is in
          record {
            equation =
                ⊎_elim (λ m. sym (next_found t next (length t) m (rw r at (row_equation t k (omega arith))))) (λ m. sym (next_end t next (length t) m)) (lt_or_le next (length t));
            left = rw r at e;
            ties_are = sym kept.ties_are ∙ ap (ties_to t) r;
            area_is = sym kept.area_is ∙ ap (λ (n : ℕ). area_of (length work) (holders (up_to n t))) r;
          }

  pub reach_row : (next ties : ℕ) (work : List ℕ) → next ≤ length (rows_of table) → Exactly (reachable (rows_of table) next ties work ≡ true) (AtRow (rows_of table) next ties work)
  unfolding state_at
  reach_row next ties work l =
      record {
        to = λ h. let it = reach_to next ties work h in at_row it.0 next ties work l it.1;
        of = λ at.
            let r : equation_row t (before t next) ≡ next = row_of t next l (λ m. let e = at.equation in rw e at (next_is t next l (omega arith))) in
            let q : state_after t (before t next) ≡ state_at t next = state_left table accepted none (before t next) (rw r at.left) ∙ ap (state_at t) r in
            reach_of (before t next) next ties work (rw q (record { next_is = refl; ties_are = sym at.ties_are; area_is = sym at.area_is }));
      }

  -- ---- after a never
  pub reach_never : (ties : ℕ) (work : List ℕ) → Exactly (reachable (rows_of table) never_row ties work ≡ true) (AtNever (rows_of table) ties work)
  unfolding state_at
  reach_never ties work =
      record {
        to = λ h. let it = reach_to never_row ties work h in to it.0 it.1 (unsatisfiable (up_to (equation_row t it.0) t)) refl;
        of = λ at.
            let m = count_kind 4 t in
            let end : equation_row t m ≡ length t = row_past t m (omega arith) in
            let q : state_after t m ≡ never_state t = state_never table accepted none m (rw (end, up_past (length t) t (omega arith)) at.never) in
            reach_of m never_row ties work (rw q (record { next_is = refl; ties_are = sym at.ties_are; area_is = sym at.area_is }));
      }
    where
      to : (k : ℕ) → Kept (state_after t k) never_row ties work → (b : Bool) → unsatisfiable (up_to (equation_row t k) t) ≡ b → AtNever t ties work
      to k s true e =
          let kept : Kept (never_state t) never_row ties work = rw (state_never table accepted none k e) at s in
          record { never = whole_never t none (equation_row t k) e; ties_are = sym kept.ties_are; area_is = sym kept.area_is }
      to k s false e = absurd (omega (arith, few, row_within t k, s.next_is, ap (λ (x : State). x.next) (state_left table accepted none k e)))

  -- no other number is a next row
  pub reach_else : (next ties : ℕ) (work : List ℕ) → length (rows_of table) < next → next ≢ never_row → reachable (rows_of table) next ties work ≡ false
  unfolding state_at
  reach_else next ties work l n = go (reachable t next ties work) refl
    where
      go : (b : Bool) → reachable t next ties work ≡ b → b ≡ false
      go false e = refl
      go true e = let it = reach_to next ties work e in at it.0 it.1 (unsatisfiable (up_to (equation_row t it.0) t)) refl
        where
          at : (k : ℕ) → Kept (state_after t k) next ties work → (b : Bool) → unsatisfiable (up_to (equation_row t k) t) ≡ b → true ≡ false
          at k s true e = absurd (n (sym s.next_is ∙ ap (λ (x : State). x.next) (state_never table accepted none k e)))
          at k s false e = absurd (omega (arith, row_within t k, s.next_is, ap (λ (x : State). x.next) (state_left table accepted none k e)))
