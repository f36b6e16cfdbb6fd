-- A pass over two recordings: what it has found and what the rests will give is what all give. Passing a record that is in no pair keeps
-- that, and so does taking a pair. Assumes nothing.
use mathlib.Core.Path.{◌≡◌, refl, sym, ◌∙◌, ap, ap₂, subst}
use mathlib.Core.Bool.{Bool, true, false, ◌&&◌, cond, and-false}
use mathlib.Core.List.{List, [], ◌∷◌, ◌++◌}
use mathlib.Core.Logic.{◌⊎◌, inl, inr}
use Prim.Native.Nat.{ℕ, ◌+◌, ◌-◌, ◌*◌, ◌<◌, ◌≤◌}
use Rattle.std.specs.Prelude.{Option}
use native.Mathlib.Omega.{arith}
use lib.Dec.{eqb}
use lib.ListN.{length, get_or, take, drop, length-drop}
use lib.Seq.{length-take-le}
use borrow.Author.Tests.{eq-eqb, ne_eqb, lt-ltb, le-ltb, ltb-true, ltb-false}
use Rattle.laws.proofs.Bools.{not_both, and_parts}
use Rattle.laws.proofs.Numbers.{dec_eq, lt_or_le}
use Rattle.words.specs.inner.Plan.{meets_plan}
use Rattle.recordings.specs.Recordings.{Frame, Match, frames_of, matched, rising, differences, first_counter}
use Rattle.recordings.proofs.Merging.{received_lower, sent_lower, pair_of, both_match, none_received}
use Rattle.recordings.proofs.Rising.{rising_parts, above-all}
use Rattle.recordings.proofs.Differing.{words_most, one_most}
use Rattle.merger.specs.declared.Pass.{Pass}
use Rattle.merger.specs.inner.Passing.{pair_taken, words_at, pair_at, moved_to, climbs_at, Tested, Rise, Falls, left_of, Passed, Stands, Sought, Seeks, Stepping, Comparable, failing, Merges, Merged}
use Rattle.merger.proofs.Rests.{frame_at, rest_room, rest_whole, rest_frames, rest_none, rise_falls, rise_goes, rise_last}

-- What was found and what the pairs ms will give is what all pairs give.
pub record Adds (plan : List ℕ) (s : Pass) (ms all : List Match) : Type 0 where
  pub pairs_are : s.pairs + length ms ≡ length all
  pub broken_are : s.broken + length (failing plan ms) ≡ length (failing plan all)
  pub first_is : cond (eqb s.broken 0) (first_counter (failing plan ms)) s.first ≡ first_counter (failing plan all)
  pub ties_are : s.ties + differences ms ≡ differences all
  pub clear : s.broken ≡ 0 → s.first ≡ 0

-- a pair more
adds_pair : (plan : List ℕ) (s : Pass) (m : Match) (ms all : List Match) → Adds plan s (m ∷ ms) all
    → Adds plan (pair_taken plan m.sent m.received m.counter s) ms all
unfolding pair_taken failing differences first_counter
adds_pair plan s m ms all a =
    let h = go (meets_plan plan (m.sent ++ m.received)) a.broken_are a.first_is in
    record { pairs_are = omega (arith, a.pairs_are); broken_are = h.0; first_is = h.1; ties_are = omega (arith, a.ties_are); clear = h.2 }
  where
    go : (b : Bool) → s.broken + length (cond b (failing plan ms) (m ∷ failing plan ms)) ≡ length (failing plan all)
        → cond (eqb s.broken 0) (first_counter (cond b (failing plan ms) (m ∷ failing plan ms))) s.first ≡ first_counter (failing plan all)
        → (s.broken + cond b 0 1 + length (failing plan ms) ≡ length (failing plan all))
        × (cond (eqb (s.broken + cond b 0 1) 0) (first_counter (failing plan ms)) (cond b s.first (cond (eqb s.broken 0) m.counter s.first)) ≡ first_counter (failing plan all))
        × (s.broken + cond b 0 1 ≡ 0 → cond b s.first (cond (eqb s.broken 0) m.counter s.first) ≡ 0)
    go true h f =
        let e : s.broken + 0 ≡ s.broken = omega arith in
        (omega arith, rw e f, λ z. a.clear (omega arith))
    go false h f = (omega arith, rw (ne_eqb (s.broken + 1) 0 (λ e. omega arith)) f, λ z. absurd (omega arith))

-- ---- an offset further on
module _ (k : ℕ) (numbers : List ℕ) (i : ℕ) (x : Tested k numbers i) (l : i < length numbers) where
  abbrev over : ℕ
  over = i + (k + 1)

  -- the last record
  pub tested_last : length numbers ≤ over → Tested k numbers over
  unfolding rising
  tested_last e =
      record {
        inside = rest_room k numbers i x.whole l;
        whole = rest_whole k numbers i x.whole l;
        same = ap rising (rest_none k numbers over e) ∙ sym (rise_last k numbers i x.whole e) ∙ x.same;
      }

  -- a counter above the one before it
  pub tested_next : over < length numbers → get_or numbers i 0 < get_or numbers over 0 → Tested k numbers over
  tested_next m h =
      record {
        inside = rest_room k numbers i x.whole l;
        whole = rest_whole k numbers i x.whole l;
        same = rise_goes k numbers i x.whole m h ∙ x.same;
      }

  pub falls_next : over < length numbers → get_or numbers over 0 ≤ get_or numbers i 0 → rising (frames_of k numbers) ≡ false
  falls_next m h = sym x.same ∙ sym (rise_falls k numbers i x.whole m h)

  -- what `climbs` tells of it
  module _ (c : ℕ) (e : get_or numbers i 0 ≡ c) where
    pub climbs_tested : climbs_at numbers over c ≡ true → Tested k numbers over
    unfolding climbs_at
    climbs_tested h = go (lt_or_le over (length numbers))
      where
        go : (over < length numbers) ⊎ (length numbers ≤ over) → Tested k numbers over
        go (inl m) = tested_next m (omega (arith, e, ltb-true c (get_or numbers over 0) (rw (lt-ltb over (length numbers) m) at h)))
        go (inr m) = tested_last m

    pub climbs_falls : climbs_at numbers over c ≡ false → rising (frames_of k numbers) ≡ false
    unfolding climbs_at
    climbs_falls h = go (lt_or_le over (length numbers))
      where
        go : (over < length numbers) ⊎ (length numbers ≤ over) → rising (frames_of k numbers) ≡ false
        go (inl m) = falls_next m (omega (arith, e, ltb-false c (get_or numbers over 0) (rw (lt-ltb over (length numbers) m) at h)))
        go (inr m) = absurd (not_both refl (rw (le-ltb over (length numbers) m) at h))

pub tested_first : (k : ℕ) (numbers : List ℕ) → Comparable k numbers → Tested k numbers 0
tested_first k numbers a = record { inside = omega arith; whole = a.whole; same = refl }

pub passed_none : (k : ℕ) (sent received : List ℕ) (s : Pass) → Tested k sent s.i → Tested k received s.j → Passed k sent received s s
passed_none k sent received s a b = record { sent_tested = a; received_tested = b; same_found = refl; same_left = λ h. refl }

-- the records at the two offsets, and those behind them
module _ (k : ℕ) (sent received : List ℕ) (s : Pass) (x : Tested k sent s.i) (y : Tested k received s.j) (li : s.i < length sent) (lj : s.j < length received) where
  abbrev f : Frame
  f = frame_at k sent s.i

  abbrev h : Frame
  h = frame_at k received s.j

  abbrev ss : List Frame
  ss = frames_of k (drop (s.i + (k + 1)) sent)

  abbrev rs : List Frame
  rs = frames_of k (drop (s.j + (k + 1)) received)

  sent_is : frames_of k (drop s.i sent) ≡ f ∷ ss
  sent_is = rest_frames k sent s.i x.whole li

  received_is : frames_of k (drop s.j received) ≡ h ∷ rs
  received_is = rest_frames k received s.j y.whole lj

  sent_rises : Rise k sent received → rising (f ∷ ss) ≡ true
  sent_rises h = rw sent_is at (x.same ∙ h.0)

  received_rises : Rise k sent received → rising (h ∷ rs) ≡ true
  received_rises r = rw received_is at (y.same ∙ r.1)

  -- the lower one is in no pair
  pub sent_left : Rise k sent received → f.counter < h.counter → left_of k sent received (moved_to s (s.i + (k + 1)) s.j) ≡ left_of k sent received s
  sent_left r l = sym (rw (sent_is, received_is) (sent_lower f ss (h ∷ rs) (above-all f.counter h rs l (received_rises r))))

  pub received_left : Rise k sent received → h.counter < f.counter → left_of k sent received (moved_to s s.i (s.j + (k + 1))) ≡ left_of k sent received s
  received_left r l = sym (rw (sent_is, received_is) (received_lower (f ∷ ss) h rs (above-all h.counter f ss l (sent_rises r))))

  -- a pair: its words, the state behind it, and the pairs that were left
  pub sent_wide : length (words_at k sent s.i) ≡ k
  sent_wide = length-take-le k (drop (s.i + 1) sent) (omega (arith, rest_room k sent s.i x.whole li, length-drop (s.i + 1) sent))

  pub received_wide : length (words_at k received s.j) ≡ k
  received_wide = length-take-le k (drop (s.j + 1) received) (omega (arith, rest_room k received s.j y.whole lj, length-drop (s.j + 1) received))

  module _ (plan : List ℕ) where
    pub sent_next : (pair_at plan k sent received s).i ≡ s.i + (k + 1)
    unfolding pair_taken
    sent_next = omega (arith, sent_wide)

    pub received_next : (pair_at plan k sent received s).j ≡ s.j + (k + 1)
    unfolding pair_taken
    received_next = omega (arith, received_wide)

    left_pair : Rise k sent received → get_or received s.j 0 ≡ get_or sent s.i 0 → left_of k sent received s ≡ pair_of f h ∷ left_of k sent received (pair_at plan k sent received s)
    left_pair r e =
        rw (sent_is, received_is) (both_match f h ss rs e (rising_parts f ss (sent_rises r)).0 (rising_parts h rs (received_rises r)).0)
        ∙ ap₂ (λ (n m : ℕ). pair_of f h ∷ matched (frames_of k (drop n sent)) (frames_of k (drop m received))) (sym sent_next) (sym received_next)

-- ---- a search: the state at offsets i and j, of which the records there are in the recordings
pub record Seeking (k : ℕ) (sent received : List ℕ) (s : Pass) (i j a b : ℕ) : Type 0 where
  pub passed : Passed k sent received s (moved_to s i j)
  pub on : s.i ≤ i
  pub received_on : s.j ≤ j
  pub sent_more : i < length sent
  pub received_more : j < length received
  pub sent_here : a ≡ get_or sent i 0
  pub received_here : b ≡ get_or received j 0

module _ (k : ℕ) (sent received : List ℕ) (s : Pass) (i j a b : ℕ) (g : Seeking k sent received s i j a b) where
  abbrev here : Pass
  here = moved_to s i j

  -- the sent record is passed
  module _ (l : a < b) where
    sent_same : Rise k sent received → left_of k sent received (moved_to s (i + (k + 1)) j) ≡ left_of k sent received s
    sent_same r =
        sent_left k sent received here g.passed.sent_tested g.passed.received_tested g.sent_more g.received_more r (omega (arith, g.sent_here, g.received_here))
        ∙ g.passed.same_left r

    sent_passed : Tested k sent (i + (k + 1)) → Passed k sent received s (moved_to s (i + (k + 1)) j)
    sent_passed x = record { sent_tested = x; received_tested = g.passed.received_tested; same_found = refl; same_left = sent_same }

    pub sent_ends : length sent ≤ i + (k + 1) → Sought k sent received s (moved_to s (i + (k + 1)) j)
    sent_ends e =
        record {
          on = omega (arith, g.on);
          received_on = g.received_on;
          passed = sent_passed (tested_last k sent i g.passed.sent_tested g.sent_more e);
          stands = inl e;
        }

    pub sent_falls : i + (k + 1) < length sent → get_or sent (i + (k + 1)) 0 ≤ a → Falls k sent received
    sent_falls m h = inl (falls_next k sent i g.passed.sent_tested g.sent_more m (omega (arith, g.sent_here)))

    pub sent_goes : i + (k + 1) < length sent → a < get_or sent (i + (k + 1)) 0 → Seeking k sent received s (i + (k + 1)) j (get_or sent (i + (k + 1)) 0) b
    sent_goes m h =
        record {
          passed = sent_passed (tested_next k sent i g.passed.sent_tested g.sent_more m (omega (arith, g.sent_here)));
          on = omega (arith, g.on);
          received_on = g.received_on;
          sent_more = m;
          received_more = g.received_more;
          sent_here = refl;
          received_here = g.received_here;
        }

  -- the received record is passed
  module _ (l : b < a) where
    received_same : Rise k sent received → left_of k sent received (moved_to s i (j + (k + 1))) ≡ left_of k sent received s
    received_same r =
        received_left k sent received here g.passed.sent_tested g.passed.received_tested g.sent_more g.received_more r (omega (arith, g.sent_here, g.received_here))
        ∙ g.passed.same_left r

    received_passed : Tested k received (j + (k + 1)) → Passed k sent received s (moved_to s i (j + (k + 1)))
    received_passed y = record { sent_tested = g.passed.sent_tested; received_tested = y; same_found = refl; same_left = received_same }

    pub received_ends : length received ≤ j + (k + 1) → Sought k sent received s (moved_to s i (j + (k + 1)))
    received_ends e =
        record {
          on = g.on;
          received_on = omega (arith, g.received_on);
          passed = received_passed (tested_last k received j g.passed.received_tested g.received_more e);
          stands = inr (inl e);
        }

    pub received_falls : j + (k + 1) < length received → get_or received (j + (k + 1)) 0 ≤ b → Falls k sent received
    received_falls m h = inr (falls_next k received j g.passed.received_tested g.received_more m (omega (arith, g.received_here)))

    pub received_goes : j + (k + 1) < length received → b < get_or received (j + (k + 1)) 0 → Seeking k sent received s i (j + (k + 1)) a (get_or received (j + (k + 1)) 0)
    received_goes m h =
        record {
          passed = received_passed (tested_next k received j g.passed.received_tested g.received_more m (omega (arith, g.received_here)));
          on = g.on;
          received_on = omega (arith, g.received_on);
          sent_more = g.sent_more;
          received_more = m;
          sent_here = g.sent_here;
          received_here = refl;
        }

  -- the two are a pair
  pub pair_stands : a ≡ b → Sought k sent received s (moved_to s i j)
  pair_stands e =
      record {
        on = g.on;
        received_on = g.received_on;
        passed = g.passed;
        stands = inr (inr (sym g.received_here ∙ sym e ∙ g.sent_here));
      }

-- where a search begins
pub seeking_first : (k : ℕ) (sent received : List ℕ) (s : Pass) → Tested k sent s.i → Tested k received s.j → s.i < length sent → s.j < length received
    → Seeking k sent received s s.i s.j (get_or sent s.i 0) (get_or received s.j 0)
seeking_first k sent received s x y li lj =
    record { passed = passed_none k sent received s x y; on = omega arith; received_on = omega arith; sent_more = li; received_more = lj; sent_here = refl; received_here = refl }

-- or does not: one recording has ended
pub sought_none : (k : ℕ) (sent received : List ℕ) (s : Pass) → Tested k sent s.i → Tested k received s.j → (length sent ≤ s.i) ⊎ (length received ≤ s.j)
    → Sought k sent received s s
sought_none k sent received s x y e =
    record { on = omega arith; received_on = omega arith; passed = passed_none k sent received s x y; stands = end e }
  where
    end : (length sent ≤ s.i) ⊎ (length received ≤ s.j) → Stands sent received s
    end (inl l) = inl l
    end (inr l) = inr (inl l)

-- ---- the pair at the offsets, taken
module _ (k : ℕ) (sent received : List ℕ) (s : Pass) (st : Stepping k sent received s) where
  pub sent_room : s.i + 1 + k ≤ length sent
  sent_room = omega (arith, rest_room k sent s.i st.sent_tested.whole st.sent_more)

  pub received_room : s.j + 1 + k ≤ length received
  received_room = omega (arith, rest_room k received s.j st.received_tested.whole st.received_more)

  module _ (plan : List ℕ) (taken : Pass)
      (e : taken
      ≡ pair_taken plan (take (s.i + 1 + k - (s.i + 1)) (drop (s.i + 1) sent)) (take (s.j + 1 + k - (s.j + 1)) (drop (s.j + 1) received)) (get_or sent s.i 0) s) where
    pub taken_is : taken ≡ pair_at plan k sent received s
    taken_is =
        let x : s.i + 1 + k - (s.i + 1) ≡ k = omega arith in
        let y : s.j + 1 + k - (s.j + 1) ≡ k = omega arith in
        e ∙ ap₂ (λ (n m : ℕ). pair_taken plan (take n (drop (s.i + 1) sent)) (take m (drop (s.j + 1) received)) (get_or sent s.i 0) s) x y

    taken_i : taken.i ≡ s.i + (k + 1)
    taken_i = ap (λ (x : Pass). x.i) taken_is ∙ sent_next k sent received s st.sent_tested st.received_tested st.sent_more st.received_more plan

    taken_j : taken.j ≡ s.j + (k + 1)
    taken_j = ap (λ (x : Pass). x.j) taken_is ∙ received_next k sent received s st.sent_tested st.received_tested st.sent_more st.received_more plan

    pub taken_few : (taken.i ≤ 65535) × (taken.j ≤ 65535)
    taken_few =
        (omega (arith, taken_i, st.sent_short, rest_room k sent s.i st.sent_tested.whole st.sent_more), omega (arith, taken_j, st.received_short, rest_room k received s.j st.received_tested.whole st.received_more))

    pub taken_sent : climbs_at sent taken.i (get_or sent s.i 0) ≡ true → Tested k sent taken.i
    taken_sent h = rw taken_i (climbs_tested k sent s.i st.sent_tested st.sent_more _ refl (rw taken_i at h))

    pub taken_received : climbs_at received taken.j (get_or sent s.i 0) ≡ true → Tested k received taken.j
    taken_received h = rw taken_j (climbs_tested k received s.j st.received_tested st.received_more _ st.equal (rw taken_j at h))

    -- a counter that is not above that of the pair
    pub sent_down : climbs_at sent taken.i (get_or sent s.i 0) ≡ false → Falls k sent received
    sent_down h = inl (climbs_falls k sent s.i st.sent_tested st.sent_more _ refl (rw taken_i at h))

    pub received_down : climbs_at received taken.j (get_or sent s.i 0) ≡ false → Falls k sent received
    received_down h = inr (climbs_falls k received s.j st.received_tested st.received_more _ st.equal (rw taken_j at h))

    pub taken_sought : (r : Option Pass) → Seeks k sent received taken r → Seeks k sent received (pair_at plan k sent received s) r
    taken_sought r p = subst (λ (x : Pass). Seeks k sent received x r) taken_is p

-- ---- the pass
module _ (plan : List ℕ) (k : ℕ) (sent received : List ℕ) where
  abbrev all : List Match
  all = matched (frames_of k sent) (frames_of k received)

  pub record Going (s : Pass) : Type 0 where
    pub sent_tested : Tested k sent s.i
    pub received_tested : Tested k received s.j
    pub few : s.pairs + s.pairs ≤ s.i
    pub lost : s.broken ≤ s.pairs
    pub bits : s.ties ≤ 512 * s.pairs
    pub adds : Rise k sent received → Adds plan s (left_of k sent received s) all

  -- A state of the pass.
  pub record Reached (s : Pass) : Type 0 where
    pub going : Going s
    pub stands : Stands sent received s
    pub inside : (s.i ≤ length sent) × (s.j ≤ length received)

  abbrev pub start : Pass
  start = record { i = 0; j = 0; pairs = 0; broken = 0; first = 0; ties = 0 }

  pub going_first : Comparable k sent → Comparable k received → Going start
  going_first a b =
      record {
        sent_tested = tested_first k sent a;
        received_tested = tested_first k received b;
        few = omega arith;
        lost = omega arith;
        bits = omega arith;
        adds = λ h. record { pairs_are = omega arith; broken_are = omega arith; first_is = refl; ties_are = omega arith; clear = λ z. refl };
      }

  -- passing records that are in no pair
  going_passed : (s r : Pass) → Going s → s.i ≤ r.i → Passed k sent received s r → Going r
  going_passed s r g on p =
      let moved : Going (moved_to s r.i r.j) =
      record {
        sent_tested = p.sent_tested;
        received_tested = p.received_tested;
        few = omega (arith, g.few);
        lost = g.lost;
        bits = g.bits;
        adds = λ h.
            let a : Adds plan s (left_of k sent received r) all = subst (λ (ms : List Match). Adds plan s ms all) (sym (p.same_left h)) (g.adds h) in
            record { pairs_are = a.pairs_are; broken_are = a.broken_are; first_is = a.first_is; ties_are = a.ties_are; clear = a.clear };
      } in
      subst (λ (x : Pass). Going x) (sym p.same_found) moved

  pub reached : (s r : Pass) → Going s → Sought k sent received s r → Reached r
  reached s r g p =
      record {
        going = going_passed s r g p.on p.passed;
        stands = p.stands;
        inside = (p.passed.sent_tested.inside, p.passed.received_tested.inside);
      }

  -- the end of one recording: no pair is left
  going_last : Rise k sent received → (s : Pass) → Going s → (length sent ≤ s.i) ⊎ (length received ≤ s.j) → Merges plan all s
  unfolding failing differences first_counter matched
  going_last h s g e =
      let a : Adds plan s [] all = rw (none e) at (g.adds h) in
      record {
        pairs_are = omega (arith, a.pairs_are);
        broken_are = omega (arith, a.broken_are);
        first_is = first (dec_eq s.broken 0) a.first_is a.clear;
        ties_are = omega (arith, a.ties_are);
      }
    where
      none : (length sent ≤ s.i) ⊎ (length received ≤ s.j) → left_of k sent received s ≡ []
      none (inl l) = rw (rest_none k sent s.i l) refl
      none (inr l) = rw (rest_none k received s.j l) (none_received (frames_of k (drop s.i sent)))

      first : (s.broken ≡ 0) ⊎ (s.broken ≡ 0 → ⊥) → cond (eqb s.broken 0) 0 s.first ≡ first_counter (failing plan all) → (s.broken ≡ 0 → s.first ≡ 0)
          → s.first ≡ first_counter (failing plan all)
      first (inl z) h c = c z ∙ (rw (eq-eqb s.broken 0 z) at h)
      first (inr z) h c = rw (ne_eqb s.broken 0 z) at h

  pub merged_last : (s : Pass) → Reached s → (length sent ≤ s.i) ⊎ (length received ≤ s.j) → Merged plan k sent received s
  merged_last s g e =
      record {
        sent_tested = g.going.sent_tested;
        received_tested = g.going.received_tested;
        found = λ h. going_last h s g.going e;
      }

  -- a pair taken
  module _ (one : 1 ≤ k) (most : k ≤ 32) (a : Comparable k sent) (b : Comparable k received) (s : Pass) (r₀ : Reached s) (li : s.i < length sent) (lj : s.j < length received) where
    g : Going s
    g = r₀.going

    at_pair : Stands sent received s → get_or received s.j 0 ≡ get_or sent s.i 0
    at_pair (inl l) = absurd (omega arith)
    at_pair (inr (inl l)) = absurd (omega arith)
    at_pair (inr (inr e)) = e

    pub stepping : Stepping k sent received s
    stepping =
        record {
          countable =
              record {
                sent_in = omega (arith, a.short);
                received_in = omega (arith, b.short);
                few = omega (arith, a.short, g.few);
                lost = g.lost;
                bits = g.bits;
              };
          few_words = most;
          sent_short = a.short;
          received_short = b.short;
          sent_tested = g.sent_tested;
          received_tested = g.received_tested;
          sent_more = li;
          received_more = lj;
          equal = at_pair r₀.stands;
        }

    abbrev next : Pass
    next = pair_at plan k sent received s

    -- but for its offsets, which a search tests
    adds_next : Rise k sent received → Adds plan next (left_of k sent received next) all
    unfolding pair_taken
    adds_next h =
        adds_pair plan s (pair_of (frame_at k sent s.i) (frame_at k received s.j)) (left_of k sent received next) all
        (subst (λ (ms : List Match). Adds plan s ms all) (left_pair k sent received s g.sent_tested g.received_tested li lj plan h (at_pair r₀.stands)) (g.adds h))

    module _ (r : Pass) (p : Sought k sent received (pair_at plan k sent received s) r) where
      wide : length (words_at k sent s.i) ≡ k
      wide = sent_wide k sent received s g.sent_tested g.received_tested li lj

      going_next : Going r
      unfolding pair_taken
      going_next =
          let q = p.passed in
          let moved : Going (moved_to next r.i r.j) =
          record {
            sent_tested = q.sent_tested;
            received_tested = q.received_tested;
            few = omega (arith, wide, g.few, p.on);
            lost = omega (arith, one_most (meets_plan plan (words_at k sent s.i ++ words_at k received s.j)), g.lost);
            bits = omega (arith, g.bits, words_most (words_at k sent s.i) (words_at k received s.j), wide);
            adds = λ h.
                let x : Adds plan next (left_of k sent received r) all = subst (λ (ms : List Match). Adds plan next ms all) (sym (q.same_left h)) (adds_next h) in
                record { pairs_are = x.pairs_are; broken_are = x.broken_are; first_is = x.first_is; ties_are = x.ties_are; clear = x.clear };
          } in
          subst (λ (x : Pass). Going x) (sym q.same_found) moved

      pub reached_on : Reached r
      reached_on =
          record {
            going = going_next;
            stands = p.stands;
            inside = (p.passed.sent_tested.inside, p.passed.received_tested.inside);
          }

      pub less_left : (length sent - r.i) + (length received - r.j) < (length sent - s.i) + (length received - s.j)
      unfolding pair_taken
      less_left = omega (arith, p.on, p.received_on, wide)

-- ---- whether both recordings rise
module _ (k : ℕ) (sent received : List ℕ) where
  pub falls_both : Falls k sent received → false ≡ rising (frames_of k sent) && rising (frames_of k received)
  falls_both (inl h) = rw h
  falls_both (inr h) = rw h (sym (and-false (rising (frames_of k sent))))

  pub rises_both : (b : Bool) → rising (frames_of k sent) ≡ true → b ≡ rising (frames_of k received) → b ≡ rising (frames_of k sent) && rising (frames_of k received)
  rises_both b h e = rw h e

  -- a pass over two recordings that rise has found all
  pub merged_found : (plan : List ℕ) (s : Pass) → Merged plan k sent received s → rising (frames_of k sent) && rising (frames_of k received) ≡ true
      → Merges plan (matched (frames_of k sent) (frames_of k received)) s
  merged_found plan s m up = m.found (and_parts (rising (frames_of k sent)) (rising (frames_of k received)) up)
