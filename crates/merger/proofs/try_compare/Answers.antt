-- `try_compare` meets its contract: a table that is refused. Assumes nothing.
use mathlib.Core.Path.{sym, ◌∙◌, ap}
use native.Mathlib.Omega.{arith}
use Rattle.terms.specs.Faults.{is_accepted}
use Rattle.terms.specs.Calls.{fault_record}
use Rattle.checker.proofs.Checking.{fault_found}
use Rattle.std.proofs.lemmas.Result.{err_from_is_err_and}
use Rattle.merger.proofs.Concluding.{stop_fault}
use Rattle.merger.proofs.try_compare.Goals as goal

pub returns-in_err-check_and_place : goal.returns-in_err-check_and_place
returns-in_err-check_and_place c =
    let p = err_from_is_err_and c.from_residual.result c.from_residual.ensures.1 in
    let f = sym (c.check_and_place.ensures.fault ∙ fault_found _ _ (omega arith)) ∙ c.in_err-check_and_place.was in
    record { «record» = stop_fault _ _ _ (ap is_accepted f) _ (rw (p.1, p.2) (ap fault_record (sym f))) }
