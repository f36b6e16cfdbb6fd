-- `try_solve` meets its contract: each way in which it ends has its law in proofs/Stops.antt. Assumes nothing.
use mathlib.Core.Path.{refl, sym, ◌∙◌, ap}
use Prim.Native.Nat.{ℕ}
use lib.ListN.{replicate}
use native.Mathlib.Omega.{arith}
use Rattle.terms.specs.Faults.{is_accepted}
use Rattle.terms.specs.Calls.{fault_record}
use Rattle.terms.proofs.AcceptedTable.{table_bits}
use Rattle.checker.proofs.Checking.{fault_found}
use Rattle.std.proofs.lemmas.Result.{err_from_is_err_and}
use Rattle.solver.proofs.Stops.{stop_answer, stop_work, stop_fault, stop_accepted}
use Rattle.solver.proofs.try_solve.Goals as goal

pub returns-then-answer-lt-ANSWER : goal.returns-then-answer-lt-ANSWER
returns-then-answer-lt-ANSWER g c =
    let e = stop_answer _ c.args.answer.now _ (omega (arith, c.if-answer-lt-ANSWER.true)) _ refl in
    record { «record» = e.0; answer = e.1.0; work = e.1.1 }

pub returns-then-work-lt-MEMORY : goal.returns-then-work-lt-MEMORY
returns-then-work-lt-MEMORY g c =
    let e = stop_work _ _ _ c.if-answer-lt-ANSWER.false c.if-work-lt-MEMORY.true _ refl in
    record { «record» = e.0; answer = e.1.0; work = e.1.1 }

pub returns-in_err-check_and_place : goal.returns-in_err-check_and_place
returns-in_err-check_and_place g c =
    let p = err_from_is_err_and c.from_residual.result c.from_residual.ensures.1 in
    let f = sym (c.check_and_place.ensures.fault ∙ fault_found _ _ (omega arith)) ∙ c.in_err-check_and_place.was in
    let e = stop_fault _ _ _ c.if-answer-lt-ANSWER.false c.if-work-lt-MEMORY.false (ap is_accepted f) _ (rw (p.1, p.2) (ap fault_record (sym f))) in
    record { «record» = e.0; answer = e.1.0; work = e.1.1 }

pub returns : goal.returns
returns g c =
    let placed = c.check_and_place.ensures.placed c.in_ok-check_and_place.was (omega arith) in
    let wide = c.from-bits.ensures ∙ placed.bits_are in
    let e = stop_accepted _ _ _ c.if-answer-lt-ANSWER.false c.if-work-lt-MEMORY.false placed.numbered.accepted _ _ _ (c.answer-found.ensures placed wide (omega (arith, c.if-work-lt-MEMORY.false)) (omega (arith, wide, table_bits _ placed.numbered.accepted, c.if-answer-lt-ANSWER.false)))
    (c.fill.ensures.after (λ y e. e) ∙ ap (λ (n : ℕ). replicate n 0) c.answer-found.auto.form) in
    record { «record» = e.0; answer = e.1.0; work = e.1.1 }
