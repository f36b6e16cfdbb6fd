-- `try_positions` meets its contract: a table that is refused. Assumes nothing.
use mathlib.Core.Path.{sym, ◌∙◌, ap}
use native.Mathlib.Omega.{arith}
use Rattle.terms.specs.Faults.{is_accepted}
use Rattle.terms.specs.Calls.{fault_record}
use Rattle.checker.proofs.Checking.{fault_found}
use Rattle.std.proofs.lemmas.Result.{err_from_is_err_and}
use Rattle.positions.proofs.Stops.{stop_fault}
use Rattle.positions.proofs.try_positions.Goals as goal

pub returns-in_err-check_and_place : goal.returns-in_err-check_and_place
returns-in_err-check_and_place c =
    let p = err_from_is_err_and c.from_residual.result c.from_residual.ensures.1 in
    let f = sym (c.check_and_place.ensures.fault ∙ fault_found _ _ (omega arith)) ∙ c.in_err-check_and_place.was in
    let both = stop_fault _ _ _ (ap is_accepted f) _ (rw (p.1, p.2) (ap fault_record (sym f))) in
    record { «record» = both.0; list = both.1 }
