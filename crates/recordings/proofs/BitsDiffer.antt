-- (d) The bits that differ in the pairs of an accepted call. Assumes nothing.
use mathlib.Core.Path.{◌≡◌, refl, sym, ◌∙◌, ap}
use mathlib.Core.Bool.{not}
use mathlib.Core.List.{List, [], ◌∷◌}
use Prim.Native.Nat.{ℕ, zero, suc, ◌+◌, ◌*◌, ◌/◌, ◌%◌, ◌≤◌, ◌<◌}
use native.Mathlib.Omega.{arith}
use native.Mathlib.Nat.{mul-suc, mul_assoc, mul_comm, mul-le-mul, div-mul-le_self}
use lib.Dec.{eqb, ltb}
use lib.ListN.{length, take, drop, length-drop}
use lib.Seq.{length-take-le, get_or-drop}
use borrow.Author.Tests.{ltb-false}
use Rattle.terms.specs.declared.Record.{Record}
use Rattle.terms.specs.Table.{rows_of}
use Rattle.laws.proofs.Bools.{or_first}
use Rattle.recordings.specs.Recordings.{Match, frames_of, matched, differing_words, differences}
use Rattle.recordings.specs.Call.{words_of, wrong_recording, recordings_record}
use Rattle.recordings.specs.Compared.{frames_by, Accepts, pair_at, Sixteen, BitsDiffer}
use Rattle.recordings.proofs.Counted.{numbered}
use Rattle.recordings.proofs.Differing.{words_most, words_same, words_none}
use Rattle.recordings.proofs.Each.{EachFrame, EachPair, none, more, each_of, matched_each}
use Rattle.recordings.proofs.Frames.{frames_number}
use Rattle.recordings.proofs.Stops.{Parts, parts}

-- words of 16 bits, k of them
abbrev Word : ℕ → List ℕ → Type 0
Word k ws = (length ws ≡ k) × Sixteen ws

low_take : (n : ℕ) (xs : List ℕ) → Sixteen xs → Sixteen (take n xs)
low_take zero xs h i = omega arith
low_take (suc n) [] h i = omega arith
low_take (suc n) (x ∷ xs) h zero = h 0
low_take (suc n) (x ∷ xs) h (suc i) = low_take n xs (λ j. h (suc j)) i

low_drop : (n : ℕ) (xs : List ℕ) → Sixteen xs → Sixteen (drop n xs)
low_drop n xs h i = omega (arith, get_or-drop n xs i 0, h (n + i))

frames_low : (k : ℕ) (xs : List ℕ) → Sixteen xs → EachFrame (Word k) (frames_of k xs)
frames_low k xs h =
    each_of k (Word k) Sixteen (λ ys q l. (length-take-le k (drop 1 ys) (omega (arith, length-drop 1 ys)), low_take k (drop 1 ys) (low_drop 1 ys q))) (λ ys q. low_drop (suc k) ys q) xs h

equal_all : (k : ℕ) (ms : List Match) → EachPair (Word k) ms → differences ms ≡ 0 → (i : ℕ) → i < length ms → (pair_at ms i).sent ≡ (pair_at ms i).received
unfolding differences
equal_all k ms none z i l = absurd (omega arith)
equal_all k ms (more {m = m} {ms = rest} a b e) z zero l = words_none m.sent m.received (a.0 ∙ sym b.0) a.1 b.1 (omega arith)
equal_all k ms (more {m = m} {ms = rest} a b e) z (suc i) l = equal_all k rest e (omega arith) i (omega arith)

none_differ : (ms : List Match) → ((i : ℕ) → i < length ms → (pair_at ms i).sent ≡ (pair_at ms i).received) → differences ms ≡ 0
unfolding differences
none_differ [] h = refl
none_differ (m ∷ ms) h =
    let e : differing_words m.sent m.received ≡ 0 = ap (λ (ws : List ℕ). differing_words ws m.received) (h 0 (omega arith)) ∙ words_same m.received in
    omega (arith, none_differ ms (λ i l. h (suc i) (omega arith)))

differ_most : (k : ℕ) (ms : List Match) → EachPair (Word k) ms → differences ms ≤ 16 * k * length ms
unfolding differences
differ_most k ms none = omega arith
differ_most k ms (more {m = m} {ms = rest} a b e) =
    omega (arith, differ_most k rest e, words_most m.sent m.received, a.0, mul-suc (16 * k) (length rest))

pub bits_differ : (table sent received : List ℕ) → Accepts table sent received → Sixteen sent → Sixteen received
    → BitsDiffer (words_of (rows_of table)) (matched (frames_by table sent) (frames_by table received)) (recordings_record table sent received)
unfolding wrong_recording
bits_differ table sent received a low low' =
    record {
      none = record { to = λ z. equal_all k ms each (omega (arith, ties)); of = λ h. ties ∙ none_differ ms h };
      most = omega (arith, ties, most, ap (λ (n : ℕ). 16 * k * n) pieces);
      fits = omega (arith, ties, most, mul_assoc 16 k (length ms), product, short);
    }
  where
    k : ℕ
    k = words_of (rows_of table)

    ms : List Match
    ms = matched (frames_by table sent) (frames_by table received)

    p : Parts table sent received
    p = parts table sent received a

    each : EachPair (Word k) ms
    each = matched_each (Word k) (frames_by table sent) (frames_by table received) (frames_low k sent low) (frames_low k received low')

    ties : (recordings_record table sent received).ties ≡ differences ms
    ties = ap (λ (r : Record). r.ties) p.is

    pieces : (recordings_record table sent received).pieces ≡ length ms
    pieces = ap (λ (r : Record). r.pieces) p.is

    most : differences ms ≤ 16 * k * length ms
    most = differ_most k ms each

    few : length ms ≤ length sent / suc k
    few = omega (arith, (numbered (frames_by table sent) (frames_by table received) p.sent_rises p.received_rises).0, frames_number k sent)

    product : k * length ms ≤ length sent / suc k * suc k
    product =
        let swap : suc k * (length sent / suc k) ≡ length sent / suc k * suc k = mul_comm (suc k) (length sent / suc k) in
        let up : k * length ms ≤ suc k * (length sent / suc k) = mul-le-mul (omega arith) few in
        omega (arith, swap, up)

    short : length sent / suc k * suc k ≤ 65535
    short =
        let l : length sent ≤ 65535 = ltb-false 65535 (length sent) (or_first (ltb 65535 (length sent)) (not (eqb (length sent % suc k) 0)) p.sent_good) in
        omega (arith, div-mul-le_self (length sent) (suc k))
