-- `try_pattern` meets its contract: each way in which it ends has its law in proofs/Ends.antt. Assumes nothing.
use mathlib.Core.Path.{refl, sym, ◌∙◌, ap}
use Prim.Native.Nat.{ℕ}
use native.Mathlib.Omega.{arith}
use lib.ListN.{replicate}
use Rattle.std.specs.Prelude.{is_some}
use Rattle.terms.specs.Faults.{is_accepted}
use Rattle.terms.specs.Calls.{fault_record}
use Rattle.checker.proofs.Checking.{fault_found}
use Rattle.std.proofs.lemmas.Result.{err_from_is_err_and}
use Rattle.matcher.proofs.Ends.{stop_memory, stop_fault, stop_33, stop_46, fill_right}
use Rattle.maker.proofs.Ending.{form_filled}
use Rattle.matcher.proofs.try_pattern.Goals as goal

pub returns-then-work-lt-MEMORY : goal.returns-then-work-lt-MEMORY
returns-then-work-lt-MEMORY c =
    let e = stop_memory _ _ _ c.args.pattern.now c.args.work.now (omega (arith, c.if-work-lt-MEMORY.true)) _ refl in
    record { «record» = e.0; pattern = e.1.0; work = e.1.1 }

pub returns-in_err-check_and_place : goal.returns-in_err-check_and_place
returns-in_err-check_and_place c =
    let p = err_from_is_err_and c.from_residual.result c.from_residual.ensures.1 in
    let f = sym (c.check_and_place.ensures.fault ∙ fault_found _ _ (omega arith)) ∙ c.in_err-check_and_place.was in
    let e = stop_fault _ _ _ c.args.pattern.now c.args.work.now (omega (arith, c.if-work-lt-MEMORY.false)) (ap is_accepted f) _ (rw (p.1, p.2) (ap fault_record (sym f))) in
    record { «record» = e.0; pattern = e.1.0; work = e.1.1 }

pub returns-in_default : goal.returns-in_default
returns-in_default c =
    let placed = c.check_and_place.ensures.placed c.in_ok-check_and_place.was (omega arith) in
    let e = stop_33 _ _ _ c.args.pattern.now c.args.work.now (omega (arith, c.if-work-lt-MEMORY.false)) placed.numbered.accepted (sym (c.form_of.ensures (omega arith)).fine_is ∙ ap is_some c.in_default.is) _ refl in
    record { «record» = e.0; pattern = e.1.0; work = e.1.1 }

pub returns-then-other : goal.returns-then-other
returns-then-other c =
    let placed = c.check_and_place.ensures.placed c.in_ok-check_and_place.was (omega arith) in
    let formed = sym (c.form_of.ensures (omega arith)).fine_is ∙ ap is_some c.in-Some.is in
    let other = c.is_other-other.ensures placed (c.from-bits.ensures ∙ placed.bits_are) (omega (arith, c.if-work-lt-MEMORY.false)) in
    let e = stop_46 _ _ _ c.args.pattern.now _ (omega (arith, c.if-work-lt-MEMORY.false)) placed.numbered.accepted formed (sym other ∙ c.if-other.true) _ _ refl
    (c.fill.ensures.after (λ y e. e) ∙ ap (λ (n : ℕ). replicate n 0) c.is_other-other.auto.work) in
    record { «record» = e.0; pattern = e.1.0; work = e.1.1 }

pub returns : goal.returns
returns c =
    let placed = c.check_and_place.ensures.placed c.in_ok-check_and_place.was (omega arith) in
    let F = c.form_of.ensures (omega arith) in
    let formed = sym F.fine_is ∙ ap is_some c.in-Some.is in
    let other = c.is_other-other.ensures placed (c.from-bits.ensures ∙ placed.bits_are) (omega (arith, c.if-work-lt-MEMORY.false)) in
    let shaped = rw c.in-Some.is at (F.shaped formed) in
    let e = fill_right _ _ _ _ _ (omega (arith, c.if-work-lt-MEMORY.false)) placed.numbered.accepted formed (sym other ∙ c.if-other.false) _ _ _
    (form_filled _ _ _ formed _ _ (c.fill-2.ensures shaped)) (c.fill.ensures.after (λ y e. e) ∙ ap (λ (n : ℕ). replicate n 0) c.is_other-other.auto.work) in
    record { «record» = e.0; pattern = e.1.0; work = e.1.1 }
