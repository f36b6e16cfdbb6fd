-- The order of the pattern call's refusals: 33 whatever the fresh bits are, and 34 whatever room there is. A call that is refused leaves its
-- output as it was.
use mathlib.Core.Path.{◌≡◌, ◌∙◌}
use mathlib.Core.Bool.{true, false}
use mathlib.Core.List.{List}
use Prim.Native.Nat.{ℕ}
use lib.Dec.{eqb}
use lib.ListN.{length}
use Rattle.terms.specs.declared.Record.{Record}
use Rattle.terms.specs.Calls.{refusal, stop_at}
use Rattle.assignments.specs.Form.{has_form}
use Rattle.assignments.specs.Call.{wrong_fresh, pattern_record, pattern_after}

module _ (answer fresh old : List ℕ) where
  -- what the call promises of its record and its output
  abbrev pub Answer : Record → List ℕ → Type 0
  Answer r out = (r ≡ pattern_record answer fresh (length old)) × (out ≡ pattern_after answer fresh old)

  refused : (r : Record) → r ≡ pattern_record answer fresh (length old) → eqb r.outcome 0 ≡ false → Answer r old
  unfolding pattern_after
  refused r e z = (e, rw (← e, z))

  pub stop_form : has_form answer ≡ false → (r : Record) → r ≡ refusal 33 0 → Answer r old
  unfolding pattern_record stop_at
  stop_form f r e = refused r (e ∙ rw f) (rw e)

  pub stop_fresh : has_form answer ≡ true → wrong_fresh answer fresh ≡ true → (r : Record) → r ≡ refusal 34 0 → Answer r old
  unfolding pattern_record stop_at
  stop_fresh f w r e = refused r (e ∙ rw (f, w)) (rw e)
