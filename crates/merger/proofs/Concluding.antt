-- The record of the call: that of a stop, or what a whole pass has found. Assumes nothing.
use mathlib.Core.Path.{◌≡◌, refl, sym, ◌∙◌, ap}
use mathlib.Core.Bool.{Bool, true, false, not, ◌&&◌, ◌||◌, cond, or-true, or-false}
use mathlib.Core.List.{List, ◌∷◌, ◌++◌}
use mathlib.Core.Logic.{◌⊎◌, inl, inr, ◌≢◌}
use Prim.Native.Nat.{ℕ, ◌+◌, ◌-◌, ◌*◌, ◌/◌, ◌%◌, ◌≤◌}
use native.Mathlib.Omega.{arith}
use native.Mathlib.Numerals.{add-one}
use lib.Dec.{eqb}
use lib.ListN.{length, length-append}
use borrow.Author.Tests.{eq-eqb, eqb-false}
use Rattle.terms.specs.declared.Record.{Record}
use Rattle.terms.specs.declared.Row.{Row}
use Rattle.terms.specs.Calls.{refusal, stop_at, fault_record}
use Rattle.terms.specs.Faults.{is_accepted, first_fault}
use Rattle.terms.specs.Table.{rows_of, count_kind, satisfies}
use Rattle.laws.proofs.Bools.{cond_most, and_first, and_second, or_first, or_second}
use Rattle.laws.proofs.Numbers.{dec_eq}
use Rattle.answers.specs.Answer.{variable_widths}
use Rattle.windows.specs.Words.{words_bits, sixteens}
use Rattle.words.specs.inner.Plan.{Tells}
use Rattle.words.specs.inner.Windows.{window_of}
use Rattle.words.proofs.Windows.{window_there}
use Rattle.recordings.specs.Recordings.{Match, frames_of, matched, alone, rising, broken, breaking}
use Rattle.recordings.specs.Call.{words_of, wrong_variables, wrong_recording, not_rising, compared, recordings_record}
use Rattle.recordings.proofs.Counted.{numbered}
use Rattle.recordings.proofs.Each.{Wide, EachPair, none, more, pairs_wide}
use Rattle.recordings.proofs.Frames.{frames_number}
use Rattle.merger.specs.declared.Pass.{Pass}
use Rattle.merger.specs.inner.Passing.{Comparable, failing, Merges, stops, concluded}
use Rattle.merger.proofs.Stops.{not-wrong}

-- ---- the stops, by their tests
pick : (a b c d e f : Bool) (x : Record)
    → cond (a || b) (refusal 47 0) (cond c (refusal 47 0) (cond d (refusal 47 0) (cond (not e) (refusal 48 0) (cond (not f) (refusal 48 0) x))))
    ≡ cond (a || (b || (c || d))) (refusal 47 0) (cond (e && f) x (refusal 48 0))
pick true b c d e f x = refl
pick false true c d e f x = refl
pick false false true d e f x = refl
pick false false false true e f x = refl
pick false false false false false f x = refl
pick false false false false true false x = refl
pick false false false false true true x = refl

-- no test was met
unmet : (a b c d : Bool) → a || (b || (c || d)) ≡ false → (a ≡ false) × (b ≡ false) × (c ≡ false) × (d ≡ false)
unmet a b c d h =
    let t = or_second a (b || (c || d)) h in
    let u = or_second b (c || d) t in
    (or_first a (b || (c || d)) h, or_first b (c || d) t, or_first c d u, or_second c d u)

-- What is known where the call does not stop.
pub record Unstopped (n : ℕ) (sent received : List ℕ) : Type 0 where
  pub some : n ≢ 0
  pub even : n % 2 ≢ 1
  pub sent_good : Comparable (n / 2) sent
  pub received_good : Comparable (n / 2) received

pub unstopped : (n : ℕ) (sent received : List ℕ) → stops n sent received ≡ false → Unstopped n sent received
unfolding stops
unstopped n sent received h =
    let u = unmet (eqb n 0) (eqb (n % 2) 1) (wrong_recording (n / 2) sent) (wrong_recording (n / 2) received) h in
    let s = not-wrong (n / 2) sent u.2 in
    let r = not-wrong (n / 2) received u.3 in
    record {
      some = eqb-false n 0 u.0;
      even = eqb-false (n % 2) 1 u.1;
      sent_good = record { short = s.0; whole = s.1 };
      received_good = record { short = r.0; whole = r.1 };
    }

-- ---- the table's variables
module _ (t : List Row) where
  pub window_few : (n : ℕ) → n ≡ window_of t → count_kind 0 t ≤ 64 → n ≤ 64
  unfolding window_of
  window_few n is l = omega (arith, is, cond_most (sixteens (variable_widths t)) (count_kind 0 t))

  rule_none : 0 ≡ window_of t → wrong_variables t ≡ true
  unfolding window_of wrong_variables
  rule_none = go (sixteens (variable_widths t))
    where
      go : (b : Bool) → 0 ≡ cond b (count_kind 0 t) 0 → eqb (count_kind 0 t) 0 || (eqb (count_kind 0 t % 2) 1 || not b) ≡ true
      go true z = rw (eq-eqb (count_kind 0 t) 0 (sym z)) refl
      go false z = rw (or-true (eqb (count_kind 0 t % 2) 1)) (or-true (eqb (count_kind 0 t) 0))

  rule_some : (n : ℕ) → n ≡ count_kind 0 t → sixteens (variable_widths t) ≡ true → wrong_variables t ≡ eqb n 0 || eqb (n % 2) 1
  unfolding wrong_variables
  rule_some n is h = rw (h, is) (ap (λ (b : Bool). eqb (count_kind 0 t) 0 || b) (or-false (eqb (count_kind 0 t % 2) 1)))

-- a table that is refused
pub stop_fault : (table sent received : List ℕ) → is_accepted (first_fault table) ≡ false → (r : Record) → r ≡ fault_record (first_fault table)
    → r ≡ recordings_record table sent received
unfolding recordings_record stop_at
stop_fault table sent received f r e = e ∙ rw f

module _ (table sent received : List ℕ) (good : is_accepted (first_fault table) ≡ true) (n : ℕ) (is : n ≡ window_of (rows_of table)) where
  abbrev accepted : Record
  accepted = compared (rows_of table) (frames_of (n / 2) sent) (frames_of (n / 2) received)

  -- Whether both recordings rise.
  abbrev rise : Bool
  rise = rising (frames_of (n / 2) sent) && rising (frames_of (n / 2) received)

  told : recordings_record table sent received ≡ cond (stops n sent received) (refusal 47 0) (cond rise accepted (refusal 48 0))
  unfolding recordings_record stop_at stops words_of not_rising
  told = go (dec_eq n 0)
    where
      go : (n ≡ 0) ⊎ (n ≢ 0) → recordings_record table sent received ≡ cond (stops n sent received) (refusal 47 0) (cond rise accepted (refusal 48 0))
      go (inl z) = rw (good, rule_none (rows_of table) (sym z ∙ is), eq-eqb n 0 z) refl
      go (inr some) =
          let w = window_there (rows_of table) n is some in
          rw (good, ← w.1, rule_some (rows_of table) n w.1 w.0)
          (pick (eqb n 0) (eqb (n % 2) 1) (wrong_recording (n / 2) sent) (wrong_recording (n / 2) received) (rising (frames_of (n / 2) sent)) (rising (frames_of (n / 2) received)) accepted)

  -- a stop
  pub stopped_at : stops n sent received ≡ true → (r : Record) → r ≡ refusal 47 0 → r ≡ recordings_record table sent received
  stopped_at h r is-r = is-r ∙ sym (told ∙ rw h)

  -- a counter that is not above the one before it
  pub stopped_falls : stops n sent received ≡ false → rise ≡ false → (r : Record) → r ≡ refusal 48 0 → r ≡ recordings_record table sent received
  stopped_falls u f r is-r = is-r ∙ sym (told ∙ rw (u, f))

  -- ---- a whole pass
  module _ (u : stops n sent received ≡ false) (up : rise ≡ true) (plan : List ℕ) where
    abbrev ms : List Match
    ms = matched (frames_of (n / 2) sent) (frames_of (n / 2) received)

    known : Unstopped n sent received
    known = unstopped n sent received u

    module _ (s : Pass) (found : Merges plan ms s) where
      counts : (length (alone (frames_of (n / 2) sent) (frames_of (n / 2) received)) + length ms ≡ length sent / (n / 2 + 1))
          × (length (alone (frames_of (n / 2) received) (frames_of (n / 2) sent)) + length ms ≡ length received / (n / 2 + 1))
      counts =
          let c = numbered (frames_of (n / 2) sent) (frames_of (n / 2) received) (and_first (rising (frames_of (n / 2) sent)) (rising (frames_of (n / 2) received)) up) (and_second (rising (frames_of (n / 2) sent)) (rising (frames_of (n / 2) received)) up) in
          rw (add-one (n / 2)) (c.0 ∙ frames_number (n / 2) sent, c.1 ∙ frames_number (n / 2) received)

      pub pass_fits : s.pairs + s.pairs ≤ length sent / (n / 2 + 1) + length received / (n / 2 + 1)
      pass_fits = omega (arith, counts.0, counts.1, found.pairs_are)

      module _ (tells : Tells table plan) where
        wide_all : n / 2 + n / 2 ≡ count_kind 0 (rows_of table)
        wide_all = omega (arith, known.some, known.even, (window_there (rows_of table) n is known.some).1)

        failing_is : (xs : List Match) → EachPair (Wide (n / 2)) xs → failing plan xs ≡ breaking (rows_of table) xs
        unfolding failing breaking broken
        failing_is xs none = refl
        failing_is xs (more {m = m} {ms = rest} a b e) =
            let w : length (m.sent ++ m.received) ≡ count_kind 0 (rows_of table) = simp length-append (omega (arith, wide_all)) in
            rw (tells (m.sent ++ m.received) w, failing_is rest e) (turn (satisfies (rows_of table) (words_bits (m.sent ++ m.received))))
          where
            turn : (b : Bool) → cond b (breaking (rows_of table) rest) (m ∷ breaking (rows_of table) rest) ≡ cond (not b) (m ∷ breaking (rows_of table) rest) (breaking (rows_of table) rest)
            turn true = refl
            turn false = refl

        same_pairs : failing plan ms ≡ breaking (rows_of table) ms
        same_pairs = failing_is ms (pairs_wide (n / 2) sent received)

        pub pass_found : (r : Record) → r ≡ concluded (length sent / (n / 2 + 1)) (length received / (n / 2 + 1)) s → r ≡ recordings_record table sent received
        unfolding concluded
        pass_found r e =
            let left : length sent / (n / 2 + 1) + length received / (n / 2 + 1) - 2 * s.pairs
            ≡ length (alone (frames_of (n / 2) sent) (frames_of (n / 2) received)) + length (alone (frames_of (n / 2) received) (frames_of (n / 2) sent)) =
            omega (arith, counts.0, counts.1, found.pairs_are) in
            let accepts : recordings_record table sent received ≡ accepted = told ∙ rw (u, up) in
            e ∙ rw (left, found.pairs_are, found.broken_are, found.first_is, found.ties_are, same_pairs) (sym accepts)
