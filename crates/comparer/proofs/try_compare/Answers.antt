-- `try_compare` meets its contract: where it stops, or as the comparison of a placed table. Assumes nothing.
use mathlib.Core.Path.{refl, sym, ◌∙◌, ap}
use native.Mathlib.Omega.{arith}
use Rattle.terms.specs.Faults.{is_accepted}
use Rattle.terms.specs.Calls.{fault_record}
use Rattle.checker.proofs.Checking.{fault_found}
use Rattle.std.proofs.lemmas.Result.{err_from_is_err_and}
use Rattle.inclusion.proofs.Stops.{stop_room, stop_first}
use Rattle.comparer.proofs.Stops.{ends_stopped}
use Rattle.comparer.proofs.try_compare.Goals as goal

pub returns-then-work-lt-MEMORY : goal.returns-then-work-lt-MEMORY
returns-then-work-lt-MEMORY c =
    let e = ends_stopped _ _ _ _ _ (stop_room c.args.first.now c.args.second.now c.args.work.now (omega (arith, c.if-work-lt-MEMORY.true))) refl in
    record { «record» = e.0; work = e.1 }

pub returns-in_err-check_and_place : goal.returns-in_err-check_and_place
returns-in_err-check_and_place c =
    let p = err_from_is_err_and c.from_residual.result c.from_residual.ensures.1 in
    let f = sym (c.check_and_place.ensures.fault ∙ fault_found _ _ (omega arith)) ∙ c.in_err-check_and_place.was in
    let e = ends_stopped _ _ _ _ _ (stop_first _ _ _ c.if-work-lt-MEMORY.false (ap is_accepted f)) (rw (p.1, p.2) (ap fault_record (sym f))) in
    record { «record» = e.0; work = e.1 }
