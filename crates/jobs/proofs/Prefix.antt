-- A table with its later equations left off (`up_to`): its rows, that it is accepted where the table is, and which assignments satisfy it. Assumes nothing.
use mathlib.Core.Path.{◌≡◌, refl, sym, ◌∙◌, ap, ap₂}
use mathlib.Core.Bool.{Bool, true, false, ◌&&◌, cond, and-false}
use mathlib.Core.List.{List, [], ◌∷◌}
use mathlib.Core.Logic.{◌⊎◌, inl, inr, ◌≢◌, ⊎_elim}
use Prim.Native.Nat.{ℕ, zero, suc, ◌-◌, ◌<◌, ◌≤◌}
use native.Mathlib.Omega.{arith}
use lib.Dec.{eqb}
use lib.ListN.{length, take, drop, length-drop, get_or-eq_default}
use lib.Seq.{ext_get_or}
use borrow.Author.Tests.{eqb-true, eq-eqb, ne_eqb, lt-ltb, le-ltb}
use Rattle.laws.proofs.Bools.{not_both}
use Rattle.laws.proofs.Numbers.{lt_or_le, dec_eq}
use Rattle.terms.specs.declared.Row.{Row}
use Rattle.terms.specs.Table.{rows_of, row_numbers, row_at, no_row, silent_row, counting, values_of, sides_agree, all_rows, satisfies}
use Rattle.terms.specs.Faults.{Accepted, first_fault}
use Rattle.terms.specs.Sound.{Sound}
use Rattle.terms.specs.Counting.{NoLines}
use Rattle.terms.proofs.Alike.{Alike}
use Rattle.terms.proofs.LeavingOff.{off_count, off_row, off_alike, off_sound, alike_values}
use Rattle.terms.proofs.Counting.{unmoved}
use Rattle.terms.proofs.RowNumbers.{row_numbers_length, rows_written}
use Rattle.terms.proofs.AcceptedTable.{accepted_table, sound_accepted}
use Rattle.terms.proofs.Satisfies.{agree_of, silent_agrees}
use Rattle.terms.proofs.NextEquation.{Passed, next_passed}
use Rattle.jobs.specs.Prefix.{equation_among, up_to, equation_from}

-- ---- the rows
among_equation : (n : ℕ) (row : Row) (behind : List Row) → equation_among n row behind ≡ true → row.kind ≡ 4
unfolding equation_among
among_equation n row behind h = go (eqb row.kind 4) refl
  where
    go : (b : Bool) → eqb row.kind 4 ≡ b → row.kind ≡ 4
    go true e = eqb-true row.kind 4 e
    go false e = absurd (not_both (rw e at h) refl)

among_of : (n : ℕ) (row : Row) (behind : List Row) → row.kind ≡ 4 → length behind < n → equation_among n row behind ≡ true
unfolding equation_among
among_of n row behind e l = rw (eq-eqb row.kind 4 e, lt-ltb (length behind) n l)

among-not : (n : ℕ) (row : Row) (behind : List Row) → n ≤ length behind → equation_among n row behind ≡ false
unfolding equation_among
among-not n row behind l = rw (le-ltb (length behind) n l) (and-false (eqb row.kind 4))

among_term : (n : ℕ) (row : Row) (behind : List Row) → row.kind ≢ 4 → equation_among n row behind ≡ false
unfolding equation_among
among_term n row behind k = rw (ne_eqb row.kind 4 k)

module _ (r : ℕ) (t : List Row) where
  pub up_count : length (up_to r t) ≡ length t
  unfolding up_to
  up_count = off_count (equation_among (length t - r)) t

  pub up_alike : Alike 4 (up_to r t) t
  unfolding up_to
  up_alike = off_alike (equation_among (length t - r)) (among_equation (length t - r)) t

  -- row i, as it was or left off
  up_row : (i : ℕ) → i < length t → row_at (up_to r t) i ≡ cond (equation_among (length t - r) (row_at t i) (drop (suc i) t)) silent_row (row_at t i)
  unfolding up_to
  up_row i h = off_row (equation_among (length t - r)) t i h

  up_outside : (i : ℕ) → length t ≤ i → row_at (up_to r t) i ≡ row_at t i
  up_outside i h = get_or-eq_default (up_to r t) no_row (omega (arith, up_count)) ∙ sym (get_or-eq_default t no_row h)

  pub up_before : (i : ℕ) → i < r → row_at (up_to r t) i ≡ row_at t i
  up_before i l =
      ⊎_elim (λ h. up_row i h ∙ rw (among-not (length t - r) (row_at t i) (drop (suc i) t) (omega (arith, length-drop (suc i) t)))) (up_outside i) (lt_or_le i (length t))

  pub up_term : (i : ℕ) → (row_at t i).kind ≢ 4 → row_at (up_to r t) i ≡ row_at t i
  up_term i n = ⊎_elim (λ h. up_row i h ∙ rw (among_term (length t - r) (row_at t i) (drop (suc i) t) n)) (up_outside i) (lt_or_le i (length t))

  pub up_silent : (i : ℕ) → r ≤ i → i < length t → (row_at t i).kind ≡ 4 → row_at (up_to r t) i ≡ silent_row
  up_silent i l h e = up_row i h ∙ rw (among_of (length t - r) (row_at t i) (drop (suc i) t) e (omega (arith, length-drop (suc i) t)))

  pub up_sound : Sound t → Sound (up_to r t)
  unfolding up_to
  up_sound = off_sound (equation_among (length t - r)) (among_equation (length t - r)) t

  -- a row from r on says nothing
  pub up_behind : (i : ℕ) → r ≤ i → i < length t → (row_at (up_to r t) i ≡ silent_row) ⊎ ((row_at (up_to r t) i).kind ≢ 4)
  up_behind i l h = ⊎_elim (λ e. inl (up_silent i l h e)) (λ n. inr (λ e. n (sym (ap (λ (x : Row). x.kind) (up_term i n)) ∙ e))) (dec_eq (row_at t i).kind 4)

-- two tables with their later equations left off are one where each row is
up_same : (a b : ℕ) (s t : List Row) → length s ≡ length t → ((i : ℕ) → i < length t → row_at (up_to a s) i ≡ row_at (up_to b t) i) → up_to a s ≡ up_to b t
up_same a b s t n h = ext_get_or no_row (up_to a s) (up_to b t) (up_count a s ∙ n ∙ sym (up_count b t)) (λ i l. h i (omega (arith, up_count a s)))

-- behind the last row there is nothing to leave off
pub up_past : (r : ℕ) (t : List Row) → length t ≤ r → up_to r t ≡ t
up_past r t l = ext_get_or no_row (up_to r t) t (up_count r t) (λ i h. up_before r t i (omega (arith, up_count r t)))

-- rows that are no equations make no difference
pub up_gap : (from to : ℕ) (t : List Row) → from ≤ to → ((i : ℕ) → from ≤ i → i < to → i < length t → (row_at t i).kind ≢ 4) → up_to to t ≡ up_to from t
up_gap from to t l none = up_same to from t t refl row
  where
    row : (i : ℕ) → i < length t → row_at (up_to to t) i ≡ row_at (up_to from t) i
    row i h = ⊎_elim equation (λ n. up_term to t i n ∙ sym (up_term from t i n)) (dec_eq (row_at t i).kind 4)
      where
        equation : (row_at t i).kind ≡ 4 → row_at (up_to to t) i ≡ row_at (up_to from t) i
        equation e =
            ⊎_elim (λ m. up_before to t i (omega arith) ∙ sym (up_before from t i m))
            (λ m. ⊎_elim (λ k. absurd (none i m k h e)) (λ k. up_silent to t i k h e ∙ sym (up_silent from t i m h e)) (lt_or_le i to))
            (lt_or_le i from)

pub up_next : (t : List Row) (r : ℕ) → r ≤ length t → up_to (equation_from t r) t ≡ up_to r t
up_next t r l =
    let it : Passed t r (length t) (equation_from t r) = next_passed t r (length t) (length t) (equation_from t r) l refl refl in
    up_gap r (equation_from t r) t it.forth (λ i a b c. it.none i a b)

-- what is left off twice is left off
pub up_up : (a b : ℕ) (t : List Row) → a ≤ b → up_to a (up_to b t) ≡ up_to a t
up_up a b t l = up_same a a (up_to b t) t (up_count b t) row
  where
    kinds : (i : ℕ) → i < length t → (row_at (up_to b t) i).kind ≡ (row_at t i).kind
    kinds i h = ((up_alike b t).each i h).kind_is

    row : (i : ℕ) → i < length t → row_at (up_to a (up_to b t)) i ≡ row_at (up_to a t) i
    row i h =
        let many : length (up_to b t) ≡ length t = up_count b t in
        ⊎_elim
        (λ m. up_before a (up_to b t) i m ∙ up_before b t i (omega arith) ∙ sym (up_before a t i m))
        (λ m. ⊎_elim
        (λ e. up_silent a (up_to b t) i m (omega arith) (kinds i h ∙ e) ∙ sym (up_silent a t i m h e))
        (λ n. up_term a (up_to b t) i (λ e. n (sym (kinds i h) ∙ e)) ∙ up_term b t i n ∙ sym (up_term a t i n))
        (dec_eq (row_at t i).kind 4))
        (lt_or_le i a)

pub up_more : (a b : ℕ) (t : List Row) → a ≤ b → up_to b (up_to a t) ≡ up_to a t
up_more a b t l = ext_get_or no_row (up_to b (up_to a t)) (up_to a t) (up_count b (up_to a t)) (λ i h. row i (omega (arith, up_count b (up_to a t), up_count a t)))
  where
    row : (i : ℕ) → i < length t → row_at (up_to b (up_to a t)) i ≡ row_at (up_to a t) i
    row i h =
        let many : length (up_to a t) ≡ length t = up_count a t in
        ⊎_elim (λ m. up_before b (up_to a t) i m)
        (λ m. ⊎_elim
        (λ e. up_silent b (up_to a t) i m (omega arith) e ∙ sym (up_silent a t i (omega arith) h (sym ((up_alike a t).each i h).kind_is ∙ e)))
        (λ n. up_term b (up_to a t) i n)
        (dec_eq (row_at (up_to a t) i).kind 4))
        (lt_or_le i b)

-- ---- an accepted table
pub up_accepted : (r : ℕ) (table : List ℕ) → first_fault table ≡ Accepted → first_fault (row_numbers (up_to r (rows_of table))) ≡ Accepted
up_accepted r table accepted =
    let it = accepted_table table accepted in
    let t = rows_of table in
    let read = rows_written (up_to r t) in
    sound_accepted (row_numbers (up_to r t)) (omega (arith, row_numbers_length (up_to r t)))
    (rw read (omega (arith, up_count r t, it.few)))
    (rw read (up_sound r t it.sound))

-- ---- a table without line numbers
module _ (r : ℕ) (t : List Row) (none : NoLines t) where
  pub up_lines : NoLines (up_to r t)
  up_lines n i it =
      let h : i < length t = omega (arith, it.in_table, up_count r t) in
      ⊎_elim
      (λ m. let e = up_before r t i m in
      none n i (record { in_table = h; is_equation = rw e at it.is_equation; line_is = rw e at it.line_is }))
      (λ m. ⊎_elim (λ e. sym it.line_is ∙ ap (λ (x : Row). x.c) e) (λ n. absurd (n it.is_equation)) (up_behind r t i m h))
      (lt_or_le i r)

  pub up_counting : counting (up_to r t) ≡ up_to r t
  up_counting = (unmoved (up_to r t)).no_lines up_lines

pub no_counting : (t : List Row) → NoLines t → counting t ≡ t
no_counting t none = (unmoved t).no_lines none

-- ---- the assignments that satisfy it

-- of rows that pass from one on, the others tell
all_first : (f : Row → Bool) (r : ℕ) (s t : List Row) → length s ≡ length t → ((i : ℕ) → i < r → i < length t → row_at s i ≡ row_at t i)
    → ((i : ℕ) → r ≤ i → i < length t → f (row_at s i) ≡ true) → all_rows f s ≡ all_rows f (take r t)
unfolding all_rows
all_first f zero [] t n same pass = refl
all_first f zero (x ∷ s) [] n same pass = absurd (omega arith)
all_first f zero (x ∷ s) (y ∷ t) n same pass =
    rw (pass 0 (omega arith) (omega arith)) (all_first f zero s t (omega arith) (λ i l h. absurd (omega arith)) (λ i l h. pass (suc i) (omega arith) (omega arith)))
all_first f (suc r) [] [] n same pass = refl
all_first f (suc r) [] (y ∷ t) n same pass = absurd (omega arith)
all_first f (suc r) (x ∷ s) [] n same pass = absurd (omega arith)
all_first f (suc r) (x ∷ s) (y ∷ t) n same pass =
    ap₂ (λ (a : Row) (b : Bool). f a && b) (same 0 (omega arith) (omega arith))
    (all_first f r s t (omega arith) (λ i l h. same (suc i) (omega arith) (omega arith)) (λ i l h. pass (suc i) (omega arith) (omega arith)))

module _ (r : ℕ) (t : List Row) (none : NoLines t) (p : List ℕ) where
  -- an assignment satisfies it exactly if the sides agree in the rows before r
  pub up_satisfies : satisfies (up_to r t) p ≡ all_rows (sides_agree (values_of t p)) (take r t)
  unfolding satisfies
  up_satisfies =
      rw (up_counting r t none, alike_values (up_to r t) t (up_alike r t) p)
      (all_first (sides_agree (values_of t p)) r (up_to r t) t (up_count r t) (λ i l h. up_before r t i l)
      (λ i l h. ⊎_elim (λ e. rw e (silent_agrees (values_of t p))) (λ n. agree_of (values_of t p) (row_at (up_to r t) i) (λ e. absurd (n e))) (up_behind r t i l h)))
