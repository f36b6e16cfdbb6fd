-- `positions_in` meets its contract: each way in which it ends has its law in proofs/Stops.antt. Assumes nothing.
use mathlib.Core.Path.{◌≡◌, refl, sym, ◌∙◌, ap}
use mathlib.Core.Bool.{true}
use mathlib.Core.List.{List}
use Prim.Native.Nat.{ℕ}
use native.Mathlib.Omega.{arith}
use Rattle.terms.specs.Faults.{is_accepted, first_fault}
use Rattle.terms.specs.inner.Placed.{Placed}
use Rattle.words.proofs.Windows.{window_there, some_words, no_words}
use Rattle.positions.proofs.Stops.{stop_41, stop_42, found_all}
use Rattle.positions.proofs.positions_in.Goals as goal

is-good : (table : List ℕ) {widths places : List ℕ} → Placed table widths places → is_accepted (first_fault table) ≡ true
is-good table p = ap is_accepted p.numbered.accepted

pub returns-in_default : goal.returns-in_default
returns-in_default c =
    let none = no_words _ (sym c.in_default.is ∙ c.window_of.ensures) in
    let e = stop_41 c.args.table.now c.args.words.now c.args.list.now (is-good _ c.requires.placed) _ (sym none) refl _ refl in
    record { «record» = e.0; list = e.1 }

pub returns-then-words-gt-MAX_WORDS : goal.returns-then-words-gt-MAX_WORDS
returns-then-words-gt-MAX_WORDS c =
    let w = some_words _ _ (sym c.in-Some.is ∙ c.window_of.ensures) in
    let e = stop_42 c.args.table.now c.args.words.now c.args.list.now (is-good _ c.requires.placed) _ w.0 w.1 c.if-words-gt-MAX_WORDS.true _ refl in
    record { «record» = e.0; list = e.1 }

pub find_starts-found-requires-clause-le_k : goal.find_starts-found-requires-clause-le_k
find_starts-found-requires-clause-le_k c = omega (arith, (some_words _ _ (sym c.in-Some.is ∙ c.window_of.ensures)).1)

pub returns : goal.returns
returns c =
    let w = some_words _ _ (sym c.in-Some.is ∙ c.window_of.ensures) in
    let tells = (c.prepare.ensures c.requires.placed c.requires.bits_value (window_there _ _ w.0 w.1).0 (omega arith)).0 in
    let s = c.find_starts-found.ensures in
    let e = found_all c.args.table.now c.args.words.now c.args.list.now (is-good _ c.requires.placed) _ w.0 w.1 _ tells (omega (arith, c.if-words-gt-MAX_WORDS.false)) _ _ _ s.count.0 s.list c.complete.ensures in
    record { «record» = e.0; list = e.1 }
