-- `stop_at` meets its contract: each way in which it ends has its law in proofs/Stops.antt. Assumes nothing.
use mathlib.Core.Path.{sym, ◌∙◌}
use native.Mathlib.Omega.{arith}
use Rattle.checker.proofs.Checking.{fault_found}
use Rattle.std.proofs.lemmas.Result.{err_from_is_err_and}
use Rattle.comparer.proofs.Stops.{stops_fault, stops_49, stops_nowhere}
use Rattle.comparer.proofs.stop_at.Goals as goal

pub returns-in_err-check_and_place : goal.returns-in_err-check_and_place
returns-in_err-check_and_place c =
    let p = err_from_is_err_and c.from_residual.result c.from_residual.ensures.1 in
    let f = sym (c.check_and_place.ensures.fault ∙ fault_found _ _ (omega arith)) ∙ c.in_err-check_and_place.was in
    rw (p.1, p.2) (stops_fault _ _ _ f)

pub returns-then-not-same_variables : goal.returns-then-not-same_variables
returns-then-not-same_variables c =
    let found = sym (c.check_and_place.ensures.fault ∙ fault_found _ _ (omega arith)) ∙ c.in_ok-check_and_place.was in
    stops_49 _ _ found (sym c.same_variables.ensures ∙ c.if-not-same_variables.true)

pub returns : goal.returns
returns c =
    let found = sym (c.check_and_place.ensures.fault ∙ fault_found _ _ (omega arith)) ∙ c.in_ok-check_and_place.was in
    stops_nowhere _ _ found (sym c.same_variables.ensures ∙ c.if-not-same_variables.false)
