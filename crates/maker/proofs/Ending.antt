-- The record and the output of a filling, for each way in which it ends; and that they are those of the whole call, where the table has the form.
use mathlib.Core.Path.{◌≡◌, sym, ◌∙◌}
use mathlib.Core.Bool.{true, false, not, or-true}
use mathlib.Core.List.{List}
use Prim.Native.Nat.{ℕ, ◌<◌, ◌≤◌}
use native.Mathlib.Omega.{arith}
use lib.Dec.{eqb}
use lib.ListN.{length}
use borrow.Author.Tests.{lt-ltb, le-ltb, eq-eqb, ne_eqb}
use Rattle.terms.specs.declared.Record.{Record}
use Rattle.terms.specs.Calls.{refusal, completed, stop_at}
use Rattle.laws.specs.Buffers.{overwrite}
use Rattle.laws.specs.Lists.{all_bits}
use Rattle.answers.specs.declared.AnswerRow.{AnswerRow}
use Rattle.answers.specs.Answer.{free_bits, instantiate, answer_rows_of}
use Rattle.assignments.specs.Form.{pattern_bits, has_form}
use Rattle.assignments.specs.Call.{wrong_fresh, pattern_record, pattern_after}
use Rattle.maker.specs.inner.Filling.{fill_record, fill_after, Filled}

module _ (answer fresh old : List ℕ) where
  abbrev rows : List AnswerRow
  rows = answer_rows_of answer

  refused : (r : Record) → r ≡ fill_record answer fresh (length old) → eqb r.outcome 0 ≡ false → Filled answer fresh old old r
  unfolding fill_after
  refused r e z = record { record_is = e; pattern_is = rw (← e, z) }

  stop_fresh : wrong_fresh answer fresh ≡ true → (r : Record) → r ≡ refusal 34 0 → Filled answer fresh old old r
  unfolding fill_record stop_at
  stop_fresh w r e = refused r (e ∙ rw w) (rw e)

  pub stop_count : (free : ℕ) → free ≡ free_bits (answer_rows_of answer) → (length fresh ≡ free → ⊥) → (r : Record) → r ≡ refusal 34 0 → Filled answer fresh old old r
  stop_count free e n = stop_fresh (unfold wrong_fresh in rw (ne_eqb (length fresh) (free_bits rows) (λ q. n (q ∙ sym e))))

  pub stop_byte : all_bits fresh ≡ false → (r : Record) → r ≡ refusal 34 0 → Filled answer fresh old old r
  stop_byte h = stop_fresh (unfold wrong_fresh in rw (h, or-true (not (eqb (length fresh) (free_bits rows)))))

  module _ (free : ℕ) (e : free ≡ free_bits (answer_rows_of answer)) (n : length fresh ≡ free) (h : all_bits fresh ≡ true) where
    right : wrong_fresh answer fresh ≡ false
    unfolding wrong_fresh
    right = rw (eq-eqb (length fresh) (free_bits rows) (n ∙ e), h)

    module _ (bits : ℕ) (b : bits ≡ pattern_bits (answer_rows_of answer)) where
      pub stop_room : length old < bits → (r : Record) → r ≡ refusal 32 0 → Filled answer fresh old old r
      unfolding fill_record stop_at
      stop_room l r q = refused r (q ∙ rw (right, lt-ltb (length old) (pattern_bits rows) (omega arith))) (rw q)

      pub written : bits ≤ length old → (r : Record) (out : List ℕ) → r ≡ completed 0 bits → out ≡ overwrite (instantiate (answer_rows_of answer) fresh) old → Filled answer fresh old out r
      unfolding fill_record stop_at fill_after
      written l r out q o =
          let m = le-ltb (length old) (pattern_bits rows) (omega arith) in
          record { record_is = q ∙ rw (right, m, b); pattern_is = o ∙ rw (right, m) }

  -- A table that has the form is filled.
  pub form_filled : has_form answer ≡ true → (r : Record) (out : List ℕ) → Filled answer fresh old out r
      → (r ≡ pattern_record answer fresh (length old)) × (out ≡ pattern_after answer fresh old)
  unfolding pattern_record pattern_after fill_record fill_after stop_at
  form_filled f r out k = (k.record_is ∙ rw f, k.pattern_is ∙ rw f)
