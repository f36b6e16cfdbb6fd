-- (a) Every record is in a pair or alone, and in one pair only, on lists of frames whose counters rise. Assumes nothing.
use mathlib.Core.Path.{◌≡◌, refl, sym, ap}
use mathlib.Core.Bool.{Bool, true}
use mathlib.Core.List.{List, [], ◌∷◌}
use Prim.Native.Nat.{ℕ, zero, suc, ◌+◌, ◌<◌}
use native.Mathlib.Omega.{arith}
use lib.ListN.{length}
use Rattle.recordings.specs.Recordings.{Frame, Match, matched, alone, above, rising}
use Rattle.recordings.specs.Compared.{pair_at, how_many, sent_of, received_of}
use Rattle.recordings.proofs.Merging.{received_lower, sent_lower, pair_of, both_match, none_received, alone_lower, alone_first, alone-pair, alone-all, Steps, by_steps}
use Rattle.recordings.proofs.Rising.{above_parts}

-- ---- as many as all
module _ (test : Frame → Bool) where
  abbrev Together : List Frame → List Frame → Type 0
  Together ss rs =
      (how_many test (alone ss rs) + how_many test (sent_of (matched ss rs)) ≡ how_many test ss)
      × (how_many test (alone rs ss) + how_many test (received_of (matched ss rs)) ≡ how_many test rs)

  no_sent : (rs : List Frame) → Together [] rs
  unfolding alone matched how_many sent_of received_of
  no_sent rs = (refl, omega (arith, ap (how_many test) (alone-all rs)))

  no_received : (ss : List Frame) → Together ss []
  unfolding alone how_many sent_of received_of
  no_received ss = rw (none_received ss) (omega (arith, ap (how_many test) (alone-all ss)), refl)

  sent_first : (s : Frame) (ss : List Frame) (r : Frame) (rs : List Frame) → above s.counter (r ∷ rs) ≡ true → Together ss (r ∷ rs) → Together (s ∷ ss) (r ∷ rs)
  unfolding how_many
  sent_first s ss r rs a c =
      rw (sent_lower s ss (r ∷ rs) a, alone_first s ss (r ∷ rs) a, alone_lower (r ∷ rs) s ss a) (omega arith, c.1)

  received_first : (s : Frame) (ss : List Frame) (r : Frame) (rs : List Frame) → above r.counter (s ∷ ss) ≡ true → Together (s ∷ ss) rs → Together (s ∷ ss) (r ∷ rs)
  unfolding how_many
  received_first s ss r rs a c =
      rw (received_lower (s ∷ ss) r rs a, alone_first r rs (s ∷ ss) a, alone_lower (s ∷ ss) r rs a) (c.0, omega arith)

  pair : (s : Frame) (ss : List Frame) (r : Frame) (rs : List Frame) → r.counter ≡ s.counter → above s.counter ss ≡ true → above r.counter rs ≡ true
      → Together ss rs → Together (s ∷ ss) (r ∷ rs)
  unfolding how_many sent_of received_of
  pair s ss r rs e hs hr c =
      let same : record { counter = s.counter; words = r.words } ≡ r = ap (λ (n : ℕ). record { counter = n; words = r.words }) (sym e) in
      rw (both_match s r ss rs e hs hr, alone-pair s r ss rs e hs, alone-pair r s rs ss (sym e) hr) (omega arith, rw same (omega arith))

  pub together : (ss rs : List Frame) → rising ss ≡ true → rising rs ≡ true → Together ss rs
  together = by_steps Together (record { no_sent = no_sent; no_received = no_received; sent_first = sent_first; received_first = received_first; pair = pair })

-- ---- the number of records
many_all : (fs : List Frame) → how_many (λ f. true) fs ≡ length fs
unfolding how_many
many_all [] = refl
many_all (f ∷ fs) = omega (arith, many_all fs)

sent_number : (ms : List Match) → length (sent_of ms) ≡ length ms
unfolding sent_of
sent_number [] = refl
sent_number (m ∷ ms) = ap suc (sent_number ms)

received_number : (ms : List Match) → length (received_of ms) ≡ length ms
unfolding received_of
received_number [] = refl
received_number (m ∷ ms) = ap suc (received_number ms)

pub numbered : (ss rs : List Frame) → rising ss ≡ true → rising rs ≡ true
    → (length (alone ss rs) + length (matched ss rs) ≡ length ss) × (length (alone rs ss) + length (matched ss rs) ≡ length rs)
numbered ss rs h k =
    let c = together (λ f. true) ss rs h k in (
      omega (arith, c.0, many_all (alone ss rs), many_all (sent_of (matched ss rs)), many_all ss, sent_number (matched ss rs)),
      omega (arith, c.1, many_all (alone rs ss), many_all (received_of (matched ss rs)), many_all rs, received_number (matched ss rs)),
    )

-- ---- the pairs' counters rise, and are above what all sent ones are above
abbrev Over : ℕ → List Match → Type 0
Over c ms = (i : ℕ) → i < length ms → c < (pair_at ms i).counter

abbrev Rise : List Match → Type 0
Rise ms = (i j : ℕ) → i < j → j < length ms → (pair_at ms i).counter < (pair_at ms j).counter

abbrev Once : List Frame → List Frame → Type 0
Once ss rs = Rise (matched ss rs) × ((c : ℕ) → above c ss ≡ true → Over c (matched ss rs))

over_more : (c : ℕ) (m : Match) (ms : List Match) → c < m.counter → Over c ms → Over c (m ∷ ms)
over_more c m ms l h zero k = l
over_more c m ms l h (suc i) k = h i (omega arith)

rise_more : (m : Match) (ms : List Match) → Over m.counter ms → Rise ms → Rise (m ∷ ms)
rise_more m ms h k zero zero l n = absurd (omega arith)
rise_more m ms h k zero (suc j) l n = h j (omega arith)
rise_more m ms h k (suc i) zero l n = absurd (omega arith)
rise_more m ms h k (suc i) (suc j) l n = k i j (omega arith) (omega arith)

once_none : (ss rs : List Frame) → matched ss rs ≡ [] → Once ss rs
once_none ss rs e = rw e (λ i j l n. absurd (omega arith), λ c a i l. absurd (omega arith))

once_steps : Steps Once
unfolding matched
once_steps =
    record {
      no_sent = λ rs. once_none [] rs refl;
      no_received = λ ss. once_none ss [] (none_received ss);
      sent_first = λ s ss r rs a o. rw (sent_lower s ss (r ∷ rs) a) (o.0, λ c b. o.1 c (above_parts c s ss b).1);
      received_first = λ s ss r rs a o. rw (received_lower (s ∷ ss) r rs a) o;
      pair = λ s ss r rs e hs hr o.
          rw (both_match s r ss rs e hs hr)
          (rise_more (pair_of s r) (matched ss rs) (o.1 s.counter hs) o.0, λ c b. let p = above_parts c s ss b in over_more c (pair_of s r) (matched ss rs) p.0 (o.1 c p.1));
    }

pub pairs_rise : (ss rs : List Frame) → rising ss ≡ true → rising rs ≡ true
    → (i j : ℕ) → i < j → j < length (matched ss rs) → (pair_at (matched ss rs) i).counter < (pair_at (matched ss rs) j).counter
pairs_rise ss rs h k = (by_steps Once once_steps ss rs h k).0
