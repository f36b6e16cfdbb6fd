-- (b) and (f): the recordings exchanged, and a recording against itself. Assumes nothing.
use mathlib.Core.Path.{◌≡◌, refl, sym, ◌∙◌, ap}
use mathlib.Core.Bool.{true}
use mathlib.Core.List.{List, [], ◌∷◌, ◌++◌, append_assoc}
use Prim.Native.Nat.{ℕ, suc, ◌+◌, ◌*◌, ◌/◌}
use native.Mathlib.Omega.{arith}
use lib.ListN.{length}
use Rattle.terms.specs.declared.Record.{Record}
use Rattle.terms.specs.declared.Row.{Row}
use Rattle.terms.specs.Table.{rows_of, satisfies}
use Rattle.laws.specs.Binary.{binary}
use Rattle.windows.specs.Words.{words_bits}
use Rattle.windows.proofs.WordsBits.{words_assignment}
use Rattle.recordings.specs.Recordings.{Frame, matched, alone, above, rising, differences, broken, breaking, first_counter}
use Rattle.recordings.specs.Call.{words_of, recordings_record}
use Rattle.recordings.specs.Compared.{frames_by, Accepts, Exchanged, EqualHalves, only_pairs}
use Rattle.recordings.proofs.Counted.{numbered}
use Rattle.recordings.proofs.Differing.{words_same, words_turn}
use Rattle.recordings.proofs.Each.{EachFrame, none, more, Wide, frames_wide}
use Rattle.recordings.proofs.Frames.{frames_number}
use Rattle.recordings.proofs.Merging.{received_lower, sent_lower, both_match, none_received, Steps, by_steps}
use Rattle.recordings.proofs.Rising.{rising_parts}
use Rattle.recordings.proofs.Stops.{parts, record-of}

-- ---- (b) on lists of frames
abbrev Turned : List Frame → List Frame → Type 0
Turned ss rs = (length (matched rs ss) ≡ length (matched ss rs)) × (differences (matched rs ss) ≡ differences (matched ss rs))

turned_pair : (s : Frame) (ss : List Frame) (r : Frame) (rs : List Frame) → r.counter ≡ s.counter → above s.counter ss ≡ true → above r.counter rs ≡ true
    → Turned ss rs → Turned (s ∷ ss) (r ∷ rs)
unfolding differences
turned_pair s ss r rs e hs hr c =
    rw (both_match s r ss rs e hs hr, both_match r s rs ss (sym e) hr hs) (ap suc c.0, omega (arith, words_turn s.words r.words, c.1))

turned_steps : Steps Turned
unfolding matched differences
turned_steps =
    record {
      no_sent = λ rs. rw (none_received rs) (refl, refl);
      no_received = λ ss. rw (none_received ss) (refl, refl);
      sent_first = λ s ss r rs a c. rw (sent_lower s ss (r ∷ rs) a, received_lower (r ∷ rs) s ss a) c;
      received_first = λ s ss r rs a c. rw (received_lower (s ∷ ss) r rs a, sent_lower r rs (s ∷ ss) a) c;
      pair = turned_pair;
    }

pub exchanged : (table sent received : List ℕ) → Accepts table sent received
    → Exchanged (recordings_record table sent received) (recordings_record table received sent)
exchanged table sent received a =
    let p = parts table sent received a in
    let other = record-of table received sent p.accepted p.variables p.received_good p.sent_good p.received_rises p.sent_rises in
    let c = by_steps Turned turned_steps (frames_by table sent) (frames_by table received) p.sent_rises p.received_rises in
    record {
      outcome_same = ap (λ (r : Record). r.outcome) other;
      pieces_same = ap (λ (r : Record). r.pieces) other ∙ c.0 ∙ sym (ap (λ (r : Record). r.pieces) p.is);
      fresh_same = omega (arith, ap (λ (r : Record). r.fresh) other, ap (λ (r : Record). r.fresh) p.is);
      ties_same = ap (λ (r : Record). r.ties) other ∙ c.1 ∙ sym (ap (λ (r : Record). r.ties) p.is);
    }

-- ---- (f)
words_join : (xs ys : List ℕ) → words_bits (xs ++ ys) ≡ words_bits xs ++ words_bits ys
unfolding words_bits
words_join [] ys = refl
words_join (x ∷ xs) ys = ap (λ (p : List ℕ). binary 16 x ++ p) (words_join xs ys) ∙ sym (append_assoc (binary 16 x) (words_bits xs) (words_bits ys))

module _ (t : List Row) (h : EqualHalves t) where
  abbrev Itself : List Frame → Type 0
  Itself fs = (length (matched fs fs) ≡ length fs) × (differences (matched fs fs) ≡ 0) × (breaking t (matched fs fs) ≡ [])

  meets_itself : (ws : List ℕ) → length ws ≡ words_of t → satisfies t (words_bits (ws ++ ws)) ≡ true
  meets_itself ws l =
      let e : 16 * length ws ≡ 16 * words_of t = ap (λ (n : ℕ). 16 * n) l in
      ap (satisfies t) (words_join ws ws) ∙ h (words_bits ws) (rw e at (words_assignment ws))

  itself : (fs : List Frame) → EachFrame (Wide (words_of t)) fs → rising fs ≡ true → Itself fs
  unfolding matched differences breaking broken
  itself fs none k = (refl, refl, refl)
  itself fs (more {f = f} {fs = rest} w e) k =
      let p = rising_parts f rest k in
      let m = itself rest e p.1 in
      rw (both_match f f rest rest refl p.0 p.0)
      (ap suc m.0, omega (arith, words_same f.words, m.1), rw (meets_itself f.words w) m.2)

pub same_recording : (table sent : List ℕ) → Accepts table sent sent → EqualHalves (rows_of table)
    → recordings_record table sent sent ≡ only_pairs (length sent / suc (words_of (rows_of table)))
unfolding first_counter
same_recording table sent a h =
    let p = parts table sent sent a in
    let m = itself (rows_of table) h (frames_by table sent) (frames_wide (words_of (rows_of table)) sent) p.sent_rises in
    let n = numbered (frames_by table sent) (frames_by table sent) p.sent_rises p.sent_rises in
    let none_left : length (alone (frames_by table sent) (frames_by table sent)) ≡ 0 = omega (arith, n.0, m.0) in
    p.is ∙ rw (none_left, m.2, m.1, m.0, frames_number (words_of (rows_of table)) sent) refl
