-- `begin` meets its contract: each way in which it ends has its law in proofs/Ends.antt. Assumes nothing.
use mathlib.Core.Path.{sym, ◌∙◌, ap}
use native.Mathlib.Omega.{arith}
use Rattle.std.proofs.Common.{Err}
use Rattle.std.proofs.lemmas.Result.{err_from_is_err_and}
use Rattle.checker.proofs.Checking.{fault_found}
use Rattle.stepper.proofs.Ends.{begin_10, begin_fault, begin_43, begin_goes}
use Rattle.stepper.proofs.begin.Goals as goal

pub returns-then-room-lt-MEMORY : goal.returns-then-room-lt-MEMORY
returns-then-room-lt-MEMORY c = λ w p. begin_10 c.args.table.now c.args.room _ _ (omega (arith, c.if-room-lt-MEMORY.true))

pub returns-in_err-check_and_place : goal.returns-in_err-check_and_place
returns-in_err-check_and_place c =
    λ w p.
    let it = err_from_is_err_and c.from_residual.result c.from_residual.ensures.1 in
    begin_fault c.args.table.now c.args.room _ _ (omega (arith, c.if-room-lt-MEMORY.false)) _
    (sym (c.check_and_place.ensures.fault ∙ fault_found _ _ w) ∙ c.in_err-check_and_place.was) _ (it.1 ∙ ap Err it.2)

pub returns-then-lined : goal.returns-then-lined
returns-then-lined c =
    λ w p.
    begin_43 c.args.table.now c.args.room _ _ (omega (arith, c.if-room-lt-MEMORY.false))
    (sym (c.check_and_place.ensures.fault ∙ fault_found _ _ w) ∙ c.in_ok-check_and_place.was)
    (sym c.lined.ensures ∙ c.if-lined.true)

pub returns : goal.returns
returns c =
    λ w p.
    begin_goes c.args.table.now c.args.room _ _ (omega (arith, c.if-room-lt-MEMORY.false))
    (sym (c.check_and_place.ensures.fault ∙ fault_found _ _ w) ∙ c.in_ok-check_and_place.was)
    (sym c.lined.ensures ∙ c.if-lined.false) (c.check_and_place.ensures.placed c.in_ok-check_and_place.was p)
