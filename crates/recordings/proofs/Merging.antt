-- Two recordings whose counters rise, frame by frame: where the first counters differ the lower frame is alone, where they are equal the first
-- frames are a pair. What holds of such steps holds of all (`by_steps`); a merge takes them too. Assumes nothing.
use mathlib.Core.Path.{◌≡◌, refl, ap₂}
use mathlib.Core.Bool.{true, false}
use mathlib.Core.Logic.{◌⊎◌, inl, inr}
use mathlib.Core.List.{List, [], ◌∷◌, ◌++◌}
use Prim.Native.Nat.{ℕ, zero, suc, ◌+◌, ◌<◌, ◌≤◌}
use native.Mathlib.Omega.{arith}
use lib.ListN.{length}
use borrow.Author.Tests.{eq-eqb, ne_eqb}
use Rattle.laws.proofs.Numbers.{dec_eq, lt_or_le}
use Rattle.recordings.specs.Recordings.{Frame, Match, has, pairs_with, matched, alone, above, rising}
use Rattle.recordings.proofs.Rising.{above_parts, above_lower, above-all, rising_parts}

-- ---- a counter below all others is nobody's
has_none : (c : ℕ) (fs : List Frame) → above c fs ≡ true → has c fs ≡ false
unfolding has
has_none c [] h = refl
has_none c (f ∷ fs) h = let b = above_parts c f fs h in rw (ne_eqb f.counter c (λ e. omega (arith, b.0))) (has_none c fs b.1)

pairs_none : (s : Frame) (rs : List Frame) → above s.counter rs ≡ true → pairs_with s rs ≡ []
unfolding pairs_with
pairs_none s [] h = refl
pairs_none s (r ∷ rs) h =
    let b = above_parts s.counter r rs h in rw (ne_eqb r.counter s.counter (λ e. omega (arith, b.0))) (pairs_none s rs b.1)

pass_one : (s r : Frame) (rs : List Frame) → r.counter < s.counter → pairs_with s (r ∷ rs) ≡ pairs_with s rs
unfolding pairs_with
pass_one s r rs l = rw (ne_eqb r.counter s.counter (λ e. omega arith)) refl

-- ---- the pairs, for each way in which the first counters can stand: the received one is lower,
pub received_lower : (ss : List Frame) (r : Frame) (rs : List Frame) → above r.counter ss ≡ true → matched ss (r ∷ rs) ≡ matched ss rs
unfolding matched
received_lower [] r rs h = refl
received_lower (s ∷ ss) r rs h =
    let b = above_parts r.counter s ss h in
    ap₂ (λ (x y : List Match). x ++ y) (pass_one s r rs b.0) (received_lower ss r rs b.1)

-- the sent one is lower,
pub sent_lower : (s : Frame) (ss rs : List Frame) → above s.counter rs ≡ true → matched (s ∷ ss) rs ≡ matched ss rs
unfolding matched
sent_lower s ss rs h = rw (pairs_none s rs h) refl

-- they are a pair.
abbrev pub pair_of : Frame → Frame → Match
pair_of s r = record { counter = s.counter; sent = s.words; received = r.words }

pub both_match : (s r : Frame) (ss rs : List Frame) → r.counter ≡ s.counter → above s.counter ss ≡ true → above r.counter rs ≡ true
    → matched (s ∷ ss) (r ∷ rs) ≡ pair_of s r ∷ matched ss rs
unfolding matched pairs_with
both_match s r ss rs e hs hr =
    rw (eq-eqb r.counter s.counter e, pairs_none s rs (above_lower s.counter r.counter rs (omega arith) hr), received_lower ss r rs (above_lower r.counter s.counter ss (omega arith) hs)) refl

-- Nothing is left on one side.
pub none_received : (ss : List Frame) → matched ss [] ≡ []
unfolding matched pairs_with
none_received [] = refl
none_received (s ∷ ss) = none_received ss

-- ---- those that are alone, likewise
pub alone_lower : (xs : List Frame) (y : Frame) (ys : List Frame) → above y.counter xs ≡ true → alone xs (y ∷ ys) ≡ alone xs ys
unfolding alone has
alone_lower [] y ys h = refl
alone_lower (x ∷ xs) y ys h =
    let b = above_parts y.counter x xs h in
    rw (ne_eqb y.counter x.counter (λ e. omega (arith, b.0)), alone_lower xs y ys b.1) refl

pub alone_first : (x : Frame) (xs ys : List Frame) → above x.counter ys ≡ true → alone (x ∷ xs) ys ≡ x ∷ alone xs ys
unfolding alone
alone_first x xs ys h = rw (has_none x.counter ys h) refl

pub alone-pair : (x y : Frame) (xs ys : List Frame) → y.counter ≡ x.counter → above x.counter xs ≡ true → alone (x ∷ xs) (y ∷ ys) ≡ alone xs ys
unfolding alone has
alone-pair x y xs ys e h = rw (eq-eqb y.counter x.counter e) (alone_lower xs y ys (above_lower y.counter x.counter xs (omega arith) h))

pub alone-all : (xs : List Frame) → alone xs [] ≡ xs
unfolding alone has
alone-all [] = refl
alone-all (x ∷ xs) = rw (alone-all xs) refl

-- ---- What holds where one side has no frame, and goes over each of the three steps, holds of all recordings that rise.
pub record Steps (P : List Frame → List Frame → Type 0) : Type 0 where
  pub no_sent : (rs : List Frame) → P [] rs
  pub no_received : (ss : List Frame) → P ss []
  pub sent_first : (s : Frame) (ss : List Frame) (r : Frame) (rs : List Frame) → above s.counter (r ∷ rs) ≡ true → P ss (r ∷ rs) → P (s ∷ ss) (r ∷ rs)
  pub received_first : (s : Frame) (ss : List Frame) (r : Frame) (rs : List Frame) → above r.counter (s ∷ ss) ≡ true → P (s ∷ ss) rs → P (s ∷ ss) (r ∷ rs)
  pub pair : (s : Frame) (ss : List Frame) (r : Frame) (rs : List Frame) → r.counter ≡ s.counter → above s.counter ss ≡ true → above r.counter rs ≡ true
      → P ss rs → P (s ∷ ss) (r ∷ rs)

module _ (P : List Frame → List Frame → Type 0) (go : Steps P) where
  bounded : (n : ℕ) (ss rs : List Frame) → length ss + length rs ≤ n → rising ss ≡ true → rising rs ≡ true → P ss rs
  bounded n [] rs l h k = go.no_sent rs
  bounded n (s ∷ ss) [] l h k = go.no_received (s ∷ ss)
  bounded zero (s ∷ ss) (r ∷ rs) l h k = absurd (omega arith)
  bounded (suc n) (s ∷ ss) (r ∷ rs) l h k =
      let hs = rising_parts s ss h in
      let hr = rising_parts r rs k in
      by (lt_or_le s.counter r.counter) (dec_eq r.counter s.counter)
      (λ a. go.sent_first s ss r rs (above-all s.counter r rs a k) (bounded n ss (r ∷ rs) (omega arith) hs.1 k))
      (λ a. go.received_first s ss r rs (above-all r.counter s ss a h) (bounded n (s ∷ ss) rs (omega arith) h hr.1))
      (λ e. go.pair s ss r rs e hs.0 hr.0 (bounded n ss rs (omega arith) hs.1 hr.1))
    where
      by : (s.counter < r.counter) ⊎ (r.counter ≤ s.counter) → (r.counter ≡ s.counter) ⊎ (r.counter ≡ s.counter → ⊥)
          → (s.counter < r.counter → P (s ∷ ss) (r ∷ rs)) → (r.counter < s.counter → P (s ∷ ss) (r ∷ rs)) → (r.counter ≡ s.counter → P (s ∷ ss) (r ∷ rs))
          → P (s ∷ ss) (r ∷ rs)
      by (inl a) b f g m = f a
      by (inr a) (inl e) f g m = m e
      by (inr a) (inr e) f g m = g (omega arith)

  pub by_steps : (ss rs : List Frame) → rising ss ≡ true → rising rs ≡ true → P ss rs
  by_steps ss rs = bounded (length ss + length rs) ss rs (omega arith)
