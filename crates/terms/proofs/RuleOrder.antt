-- The rules of a row are told in the documents' order: each where it is broken and those above it are kept; a row that keeps all of them has
-- no fault. Assumes nothing.
use mathlib.Core.Path.{◌≡◌, ◌∙◌}
use mathlib.Core.Bool.{true}
use mathlib.Core.List.{List}
use Prim.Native.Nat.{ℕ}
use lib.ListN.{drop}
use Rattle.terms.specs.declared.Row.{Row}
use Rattle.std.specs.Prelude.{Err}
use Rattle.terms.specs.declared.Fault.TheVariants.{Kind, Unused, Named, Width, Value, Bounds, Count}
use Rattle.terms.specs.Faults.{Found, Accepted, breaks12, breaks13, breaks14, breaks15, breaks40, breaks16, breaks17, first_rule, rules_at, fault_at}
use Rattle.terms.specs.Acceptance.{Keeps12, Keeps13, Keeps14, Keeps15, Keeps40, Keeps16, KeepsAll}

module _ (t : List Row) (r : ℕ) where
  -- the fault of the rules behind the first n
  behind : ℕ → Found
  behind n = first_rule (drop n (rules_at t r))

  pub told_12 : breaks12 t r ≡ true → fault_at t r ≡ Err (Kind r)
  unfolding fault_at rules_at first_rule
  told_12 h = rw h

  past_12 : Keeps12 t r → fault_at t r ≡ behind 1
  unfolding fault_at behind rules_at first_rule
  past_12 k = rw k

  pub told_13 : Keeps12 t r → breaks13 t r ≡ true → fault_at t r ≡ Err (Unused r)
  unfolding behind rules_at first_rule
  told_13 k h = past_12 k ∙ rw h

  past_13 : Keeps13 t r → fault_at t r ≡ behind 2
  unfolding behind rules_at first_rule
  past_13 k = past_12 k.0 ∙ rw k.1

  pub told_14 : Keeps13 t r → breaks14 t r ≡ true → fault_at t r ≡ Err (Named r)
  unfolding behind rules_at first_rule
  told_14 k h = past_13 k ∙ rw h

  past_14 : Keeps14 t r → fault_at t r ≡ behind 3
  unfolding behind rules_at first_rule
  past_14 k = past_13 k.0 ∙ rw k.1

  pub told_15 : Keeps14 t r → breaks15 t r ≡ true → fault_at t r ≡ Err (Width r)
  unfolding behind rules_at first_rule
  told_15 k h = past_14 k ∙ rw h

  past_15 : Keeps15 t r → fault_at t r ≡ behind 4
  unfolding behind rules_at first_rule
  past_15 k = past_14 k.0 ∙ rw k.1

  pub told_40 : Keeps15 t r → breaks40 t r ≡ true → fault_at t r ≡ Err (Value r)
  unfolding behind rules_at first_rule
  told_40 k h = past_15 k ∙ rw h

  past_40 : Keeps40 t r → fault_at t r ≡ behind 5
  unfolding behind rules_at first_rule
  past_40 k = past_15 k.0 ∙ rw k.1

  pub told_16 : Keeps40 t r → breaks16 t r ≡ true → fault_at t r ≡ Err (Bounds r)
  unfolding behind rules_at first_rule
  told_16 k h = past_40 k ∙ rw h

  past_16 : Keeps16 t r → fault_at t r ≡ behind 6
  unfolding behind rules_at first_rule
  past_16 k = past_40 k.0 ∙ rw k.1

  pub told_17 : Keeps16 t r → breaks17 t r ≡ true → fault_at t r ≡ Err (Count r)
  unfolding behind rules_at first_rule
  told_17 k h = past_16 k ∙ rw h

  pub told_none : KeepsAll t r → fault_at t r ≡ Accepted
  unfolding behind rules_at first_rule
  told_none k = past_16 k.0 ∙ rw k.1
