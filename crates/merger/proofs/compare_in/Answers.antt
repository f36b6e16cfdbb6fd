-- `compare_in` meets its contract: a stop, or a whole pass (proofs/Concluding.antt). Assumes nothing.
use mathlib.Core.Path.{◌≡◌, refl, sym, ◌∙◌, ap}
use borrow.Author.Tests.{not-true, not-false}
use mathlib.Core.Bool.{true}
use mathlib.Core.List.{List}
use Prim.Native.Nat.{ℕ, ◌+◌, ◌/◌, ◌≤◌}
use native.Mathlib.Nat.{div-le_self}
use native.Mathlib.Omega.{arith}
use lib.ListN.{length, replicate, length-replicate}
use lib.Seq.{length-take-le}
use Rattle.terms.specs.Faults.{is_accepted, first_fault}
use Rattle.terms.specs.Table.{rows_of}
use Rattle.terms.specs.inner.Placed.{Placed}
use Rattle.terms.proofs.AcceptedTable.{table_totals}
use Rattle.words.specs.inner.Windows.{window_of}
use Rattle.words.proofs.Windows.{window_there, some_words, no_words}
use Rattle.merger.proofs.Passing.{merged_found, falls_both}
use Rattle.merger.proofs.Stops.{none_stops}
use Rattle.merger.proofs.Concluding.{unstopped, window_few, stopped_at, stopped_falls, pass_fits, pass_found}
use Rattle.merger.proofs.compare_in.Goals as goal

is-good : (table : List ℕ) {widths places : List ℕ} → Placed table widths places → is_accepted (first_fault table) ≡ true
is-good table p = ap is_accepted p.numbered.accepted

-- the window has room for the words of a pair
few : (table : List ℕ) {widths places : List ℕ} → Placed table widths places → (n : ℕ) → n ≡ window_of (rows_of table) → n ≤ 64
few table p n is = window_few (rows_of table) n is (table_totals table p.numbered.accepted).0

pub returns-in_default : goal.returns-in_default
returns-in_default c =
    let none = no_words _ (sym c.in_default.is ∙ c.window_of.ensures) in
    record { «record» = stopped_at _ _ _ (is-good _ c.requires.placed) 0 (sym none) (none_stops 0 _ _ refl) _ refl }

pub fit-requires : goal.fit-requires
fit-requires c =
    let w = some_words _ _ (sym c.in-Some.is ∙ c.window_of.ensures) in
    record { some = omega (arith, w.1); n_bound = few _ c.requires.placed _ w.0 }

pub returns-then-not-fit : goal.returns-then-not-fit
returns-then-not-fit c =
    let w = some_words _ _ (sym c.in-Some.is ∙ c.window_of.ensures) in
    record { «record» = stopped_at _ _ _ (is-good _ c.requires.placed) _ w.0 (not-false _ (sym c.fit.ensures ∙ c.if-not-fit.true)) _ refl }

pub slice_bounds-window-end : goal.slice_bounds-window-end
slice_bounds-window-end c = few _ c.requires.placed _ (some_words _ _ (sym c.in-Some.is ∙ c.window_of.ensures)).0

pub slice_bounds-merge-end-2 : goal.slice_bounds-merge-end-2
slice_bounds-merge-end-2 c =
    sym (length-take-le _ (replicate 64 0) (omega (arith, few _ c.requires.placed _ (some_words _ _ (sym c.in-Some.is ∙ c.window_of.ensures)).0, length-replicate {A = ℕ} 64 0)))

pub merge-requires : goal.merge-requires
merge-requires c =
    let w = some_words _ _ (sym c.in-Some.is ∙ c.window_of.ensures) in
    let u = unstopped c.in-Some.n _ _ (not-true _ (sym c.fit.ensures ∙ c.if-not-fit.false)) in
    let l = few _ c.requires.placed _ w.0 in
    let whole = length-take-le {A = ℕ} c.in-Some.n (replicate 64 0) (omega (arith, length-replicate {A = ℕ} 64 0)) in
    record { le_k = omega (arith, u.some, u.even); k_bound = omega arith; window_len = whole ∙ omega (arith, u.some, u.even); comparable = u.sent_good; comparable_2 = u.received_good }

pub returns-in_default-merge : goal.returns-in_default-merge
returns-in_default-merge c =
    let w = some_words _ _ (sym c.in-Some.is ∙ c.window_of.ensures) in
    record { «record» = stopped_falls _ _ _ (is-good _ c.requires.placed) _ w.0 (not-true _ (sym c.fit.ensures ∙ c.if-not-fit.false)) (sym (falls_both _ _ _ c.in_default-merge.ensures)) _ refl }

pub both_rise-requires : goal.both_rise-requires
both_rise-requires c =
    let w = some_words _ _ (sym c.in-Some.is ∙ c.window_of.ensures) in
    let u = unstopped c.in-Some.n _ _ (not-true _ (sym c.fit.ensures ∙ c.if-not-fit.false)) in
    let m = c.in-Some-merge.ensures in
    record { k_bound = omega (arith, few _ c.requires.placed _ w.0); sent_len_bound = u.sent_good.short; received_len_bound = u.received_good.short; tested = m.sent_tested; tested_2 = m.received_tested }

pub returns-then-not-both_rise : goal.returns-then-not-both_rise
returns-then-not-both_rise c =
    let w = some_words _ _ (sym c.in-Some.is ∙ c.window_of.ensures) in
    record { «record» = stopped_falls _ _ _ (is-good _ c.requires.placed) _ w.0 (not-true _ (sym c.fit.ensures ∙ c.if-not-fit.false)) (sym c.both_rise.ensures ∙ c.if-not-both_rise.true) _ refl }

pub conclude-requires : goal.conclude-requires
conclude-requires c =
    let a = c.args in
    let n = c.in-Some.n in
    let w = some_words _ _ (sym c.in-Some.is ∙ c.window_of.ensures) in
    let going = not-true _ (sym c.fit.ensures ∙ c.if-not-fit.false) in
    let u = unstopped n a.sent.now a.received.now going in
    let up = sym c.both_rise.ensures ∙ c.if-not-both_rise.false in
    record { sent_bound = omega (arith, div-le_self (length a.sent.now) (n / 2 + 1), u.sent_good.short); received_bound = omega (arith, div-le_self (length a.received.now) (n / 2 + 1), u.received_good.short); pairs_bound = pass_fits a.table.now a.sent.now a.received.now (is-good _ c.requires.placed) n w.0 going up _ _ (merged_found _ _ _ _ _ c.in-Some-merge.ensures up) }

pub returns : goal.returns
returns c =
    let a = c.args in
    let n = c.in-Some.n in
    let w = some_words _ _ (sym c.in-Some.is ∙ c.window_of.ensures) in
    let going = not-true _ (sym c.fit.ensures ∙ c.if-not-fit.false) in
    let u = unstopped n a.sent.now a.received.now going in
    let up = sym c.both_rise.ensures ∙ c.if-not-both_rise.false in
    let tells = (c.prepare.ensures c.requires.placed c.requires.bits_value (window_there _ _ w.0 u.some).0 (omega arith)).0 in
    record { «record» = pass_found a.table.now a.sent.now a.received.now (is-good _ c.requires.placed) n w.0 going up _ _ (merged_found _ _ _ _ _ c.in-Some-merge.ensures up) tells _ c.conclude.ensures }
