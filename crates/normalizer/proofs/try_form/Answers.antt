-- `try_form` meets its contract: each way in which it ends has its law in FormCall.antt of forms. Assumes nothing.
use mathlib.Core.Path.{◌≡◌, refl, sym, ◌∙◌, ap, ap₂}
use mathlib.Core.Bool.{Bool, true, false}
use mathlib.Core.List.{List}
use Prim.Native.Nat.{ℕ, ◌/◌, ◌<◌}
use native.Mathlib.Omega.{arith}
use lib.ListN.{length}
use Rattle.terms.specs.Table.{rows_of}
use Rattle.terms.specs.Faults.{absent, is_accepted, first_fault, not_term}
use Rattle.terms.specs.Calls.{fault_record, completed}
use Rattle.terms.specs.inner.Placed.{Numbered}
use Rattle.terms.proofs.AcceptedTable.{accepted_table, term_there}
use Rattle.terms.proofs.Rows.{rows_length}
use Rattle.checker.proofs.Checking.{fault_found}
use Rattle.std.proofs.lemmas.Result.{err_from_is_err_and}
use Rattle.forms.proofs.RowForms.{sources_wide, width_small}
use Rattle.forms.proofs.FormCall.{stop_fault, stop_absent, stop_room, written, form_few}
use Rattle.appender.proofs.Appending.{appended_form}
use Rattle.normalizer.proofs.try_form.Goals as goal

-- the row is tested as the definition asks
told : (table : List ℕ) (row : ℕ) (b : Bool) → b ≡ not_term (rows_of table) (length table / 4) row → absent (rows_of table) row ≡ b
unfolding absent
told table row b e = ap (λ (n : ℕ). not_term (rows_of table) n row) (rows_length table) ∙ sym e

-- an accepted table's numbers
good : {table widths places : List ℕ} → Numbered table widths places → is_accepted (first_fault table) ≡ true
good num = ap is_accepted num.accepted

-- the row is one of the 512 that a table may have
row_small : {table widths places : List ℕ} → Numbered table widths places → (row : ℕ) → absent (rows_of table) row ≡ false → row < 512
row_small num row there = omega (arith, (term_there _ _ there).earlier, (accepted_table _ num.accepted).few)

pub returns-in_err-check_and_place : goal.returns-in_err-check_and_place
returns-in_err-check_and_place c =
    let p = err_from_is_err_and c.from_residual.result c.from_residual.ensures.1 in
    let f = sym (c.check_and_place.ensures.fault ∙ fault_found _ _ (omega arith)) ∙ c.in_err-check_and_place.was in
    let both = stop_fault _ _ _ (ap is_accepted f) _ (rw (p.1, p.2) (ap fault_record (sym f))) in
    record { «record» = both.0; form = both.1 }

pub returns-then-not_term : goal.returns-then-not_term
returns-then-not_term c =
    let num = c.check_and_place.ensures.numbered c.in_ok-check_and_place.was (omega arith) in
    let both = stop_absent _ _ _ (good num) (told _ _ _ c.not_term.ensures ∙ c.if-not_term.true) _ refl in
    record { «record» = both.0; form = both.1 }

pub returns-then-out-lt-FORM_ROOM : goal.returns-then-out-lt-FORM_ROOM
returns-then-out-lt-FORM_ROOM c =
    let num = c.check_and_place.ensures.numbered c.in_ok-check_and_place.was (omega arith) in
    let there = told _ _ _ c.not_term.ensures ∙ c.if-not_term.false in
    let both = stop_room _ _ _ (good num) there c.if-out-lt-FORM_ROOM.true _ refl in
    record { «record» = both.0; form = both.1 }

pub overflow_cast-pieces : goal.overflow_cast-pieces
overflow_cast-pieces c =
    let num = c.check_and_place.ensures.numbered c.in_ok-check_and_place.was (omega arith) in
    let there = told _ _ _ c.not_term.ensures ∙ c.if-not_term.false in
    let wide = sources_wide _ _ _ num _ there in
    let small = width_small _ _ _ num _ there in
    let form = appended_form _ _ _ _ _ (omega (arith, wide, small)) c.if-out-lt-FORM_ROOM.false (c.put_form-pieces.ensures num there) in
    omega (arith, form.0, form_few (rows_of c.args.table.now) c.args.row, wide, small)

pub bounds-widths-row : goal.bounds-widths-row
bounds-widths-row c =
    row_small (c.check_and_place.ensures.numbered c.in_ok-check_and_place.was (omega arith)) _ (told _ _ _ c.not_term.ensures ∙ c.if-not_term.false)

pub offset_bounds-widths-row : goal.offset_bounds-widths-row
offset_bounds-widths-row c =
    omega (arith, row_small (c.check_and_place.ensures.numbered c.in_ok-check_and_place.was (omega arith)) _ (told _ _ _ c.not_term.ensures ∙ c.if-not_term.false))

pub returns : goal.returns
returns c =
    let num = c.check_and_place.ensures.numbered c.in_ok-check_and_place.was (omega arith) in
    let there = told _ _ _ c.not_term.ensures ∙ c.if-not_term.false in
    let form = appended_form _ _ _ _ _ (omega (arith, sources_wide _ _ _ num _ there, width_small _ _ _ num _ there)) c.if-out-lt-FORM_ROOM.false (c.put_form-pieces.ensures num there) in
    let width = num.widths_are _ (term_there _ _ there).earlier in
    let both = written _ _ _ (good num) there c.if-out-lt-FORM_ROOM.false _ _ (c.complete.ensures ∙ ap₂ completed form.0 (c.into.ensures ∙ width)) form.1 in
    record { «record» = both.0; form = both.1 }
