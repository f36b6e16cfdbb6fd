-- What each call says of the rows that are copied it says of all rows lent: 513 rows are copied, and a call refuses every table of
-- more than 512 rows in one way, whatever its numbers are. Assumes nothing.
use mathlib.Core.Path.{◌≡◌, refl, sym, ◌∙◌, ap}
use mathlib.Core.Bool.{Bool, true, false, ◌||◌, cond}
use mathlib.Core.List.{List}
use Prim.Native.Nat.{ℕ, ◌≤◌}
use native.Mathlib.Omega.{arith}
use lib.Dec.{eqb, ltb}
use lib.ListN.{length, take}
use lib.Seq.{length-take-le}
use Rattle.terms.specs.declared.Row.{Row}
use Rattle.std.specs.Prelude.{Err}
use Rattle.terms.specs.declared.Fault.TheVariants.{Shape}
use Rattle.terms.specs.Calls.{refusal, stop_at}
use Rattle.terms.specs.Faults.{first_fault}
use Rattle.terms.specs.Value.{value_record, value_after}
use Rattle.forms.specs.Call.{form_record, form_after}
use Rattle.terms.specs.Table.{row_numbers}
use Rattle.rows.proofs.Held.{all-or_over, held_read, held_room}
use Rattle.laws.proofs.Buffers.{overwrite-length}
use Rattle.rows.specs.inner.Held.{held, area_numbers}
use Rattle.laws.specs.Buffers.{overwrite}
use Rattle.answers.specs.Solve.{solve_record, answer_after, work_after}

-- ---- the numbers in use, of the rows that are lent
abbrev pub copied : List Row → List ℕ
copied ys = held ys area_numbers

-- the part of the area that is handed on
pub record Copied (rows : List Row) (flat : List ℕ) (used : ℕ) : Type 0 where
  pub part : take used flat ≡ copied rows
  pub within : used ≤ length flat
  pub long : used ≡ length (take used flat)

pub was_copied : (rows : List Row) (base flat : List ℕ) (used : ℕ) → length base ≡ 2052 → used ≡ length (held rows (length base)) → flat ≡ overwrite (held rows (length base)) base
    → Copied rows flat used
was_copied rows base flat used room count put =
    let within : used ≤ length flat = omega (arith, held_room rows (length base), ap length put ∙ overwrite-length (held rows (length base)) base) in
    record {
      part = ap (λ (n : ℕ). take n flat) count ∙ held_read rows base flat put ∙ ap (held rows) room;
      within = within;
      long = sym (length-take-le used flat within);
    }

-- ---- a table of the wrong shape
module _ (t : List ℕ) (h : first_fault t ≡ Err Shape) where
  value_refused : (row : ℕ) (pattern : List ℕ) (room : ℕ) → value_record t row pattern room ≡ refusal 11 512
  unfolding value_record stop_at
  value_refused row pattern room = rw h refl

  value_kept : (row : ℕ) (pattern old : List ℕ) → value_after t row pattern old ≡ old
  unfolding value_after
  value_kept row pattern old = rw (value_refused row pattern (length old)) refl

  form_refused : (row room : ℕ) → form_record t row room ≡ refusal 11 512
  unfolding form_record stop_at
  form_refused row room = rw h refl

  form_kept : (row : ℕ) (old : List ℕ) → form_after t row old ≡ old
  unfolding form_after
  form_kept row old = rw (form_refused row (length old)) refl

  -- a solve tests the caller's memory first
  solve_refused : (answerRoom work_room : ℕ) → solve_record t answerRoom work_room ≡ cond (ltb answerRoom 24576 || ltb work_room 16384) (refusal 10 0) (refusal 11 512)
  unfolding solve_record stop_at
  solve_refused answerRoom work_room = rw h refl

  answer_kept : (old : List ℕ) (work_room : ℕ) → answer_after t old work_room ≡ old
  unfolding answer_after
  answer_kept old work_room = rw (solve_refused (length old) work_room) (either_way _ (ltb (length old) 24576 || ltb work_room 16384))
    where
      either_way : (new : List ℕ) (b : Bool) → cond (eqb (cond b (refusal 10 0) (refusal 11 512)).outcome 2) new old ≡ old
      either_way new true = refl
      either_way new false = refl

  work_kept : (answerRoom : ℕ) (old : List ℕ) → work_after t answerRoom old ≡ old
  unfolding work_after
  work_kept answerRoom old = rw (solve_refused answerRoom (length old)) (either_way _ (ltb answerRoom 24576 || ltb (length old) 16384))
    where
      either_way : (new : List ℕ) (b : Bool) → cond (ltb (cond b (refusal 10 0) (refusal 11 512)).outcome 3) new old ≡ old
      either_way new true = refl
      either_way new false = refl

-- ---- the rows lent, of which those that the area holds are copied
module _ (rows : List Row) where
  pub value_record_of_all : (row : ℕ) (pattern : List ℕ) (n : ℕ) → value_record (copied rows) row pattern n ≡ value_record (row_numbers rows) row pattern n
  value_record_of_all row pattern n = all-or_over (λ t. value_record t row pattern n) (refusal 11 512) (λ t h. value_refused t h row pattern n) rows

  pub value_after_of_all : (row : ℕ) (pattern old : List ℕ) → value_after (copied rows) row pattern old ≡ value_after (row_numbers rows) row pattern old
  value_after_of_all row pattern old = all-or_over (λ t. value_after t row pattern old) old (λ t h. value_kept t h row pattern old) rows

  pub form_record_of_all : (row n : ℕ) → form_record (copied rows) row n ≡ form_record (row_numbers rows) row n
  form_record_of_all row n = all-or_over (λ t. form_record t row n) (refusal 11 512) (λ t h. form_refused t h row n) rows

  pub form_after_of_all : (row : ℕ) (old : List ℕ) → form_after (copied rows) row old ≡ form_after (row_numbers rows) row old
  form_after_of_all row old = all-or_over (λ t. form_after t row old) old (λ t h. form_kept t h row old) rows

  pub solve_record_of_all : (a w : ℕ) → solve_record (copied rows) a w ≡ solve_record (row_numbers rows) a w
  solve_record_of_all a w = all-or_over (λ t. solve_record t a w) (cond (ltb a 24576 || ltb w 16384) (refusal 10 0) (refusal 11 512)) (λ t h. solve_refused t h a w) rows

  pub answer_after_of_all : (old : List ℕ) (w : ℕ) → answer_after (copied rows) old w ≡ answer_after (row_numbers rows) old w
  answer_after_of_all old w = all-or_over (λ t. answer_after t old w) old (λ t h. answer_kept t h old w) rows

  pub work_after_of_all : (a : ℕ) (old : List ℕ) → work_after (copied rows) a old ≡ work_after (row_numbers rows) a old
  work_after_of_all a old = all-or_over (λ t. work_after t a old) old (λ t h. work_kept t h a old) rows
