-- What holds of the words of each frame holds of the words of each pair: that there are k of them, and that they have 16 bits. Assumes nothing.
use mathlib.Core.Path.{◌≡◌, refl, ap}
use mathlib.Core.Bool.{Bool, true, false, cond}
use mathlib.Core.List.{List, [], ◌∷◌, ◌++◌}
use mathlib.Core.Logic.{◌⊎◌, inl, inr}
use Prim.Native.Nat.{ℕ, zero, suc, ◌+◌, ◌-◌, ◌/◌, ◌<◌, ◌≤◌}
use native.Mathlib.Omega.{arith}
use native.Mathlib.Nat.{div-eq-sub-div, div-eq_of_lt}
use lib.Dec.{eqb}
use lib.ListN.{length, take, drop, length-drop}
use lib.Seq.{length-take-le}
use Rattle.laws.proofs.Numbers.{lt_or_le}
use Rattle.recordings.specs.Recordings.{Frame, first_frame, frames_in, frames_of, Match, pairs_with, matched}
use Rattle.recordings.specs.Compared.{pair_at}

pub data EachFrame (P : List ℕ → Type 0) : List Frame → Type 0 where
  none : EachFrame P []
  more : {f : Frame} {fs : List Frame} → P f.words → EachFrame P fs → EachFrame P (f ∷ fs)

pub data EachPair (P : List ℕ → Type 0) : List Match → Type 0 where
  none : EachPair P []
  more : {m : Match} {ms : List Match} → P m.sent → P m.received → EachPair P ms → EachPair P (m ∷ ms)

-- pair i of them
pub each_at : (P : List ℕ → Type 0) (ms : List Match) → EachPair P ms → (i : ℕ) → i < length ms → P (pair_at ms i).sent × P (pair_at ms i).received
each_at P ms none i l = absurd (omega arith)
each_at P ms (more a b e) zero l = (a, b)
each_at P ms (more {m = m} {ms = rest} a b e) (suc i) l = each_at P rest e i (omega arith)

-- ---- from frames to pairs
module _ (P : List ℕ → Type 0) where
  joined : (xs ys : List Match) → EachPair P xs → EachPair P ys → EachPair P (xs ++ ys)
  joined xs ys none k = k
  joined xs ys (more {m = m} {ms = ms} a b e) k = more a b (joined ms ys e k)

  with_each : (s : Frame) (rs : List Frame) → P s.words → EachFrame P rs → EachPair P (pairs_with s rs)
  unfolding pairs_with
  with_each s rs p none = none
  with_each s rs p (more {f = f} {fs = fs} a e) = go (eqb f.counter s.counter) (with_each s fs p e)
    where
      go : (b : Bool) → EachPair P (pairs_with s fs)
          → EachPair P (cond b (record { counter = s.counter; sent = s.words; received = f.words } ∷ pairs_with s fs) (pairs_with s fs))
      go true h = more p a h
      go false h = h

  pub matched_each : (ss rs : List Frame) → EachFrame P ss → EachFrame P rs → EachPair P (matched ss rs)
  unfolding matched
  matched_each ss rs none k = none
  matched_each ss rs (more {f = f} {fs = fs} a e) k = joined (pairs_with f rs) (matched fs rs) (with_each f rs a k) (matched_each fs rs e k)

-- ---- the frames of a run: what holds of each k numbers that stand in it holds of their words
module _ (k : ℕ) (P : List ℕ → Type 0) (Q : List ℕ → Type 0) (here : (xs : List ℕ) → Q xs → suc k ≤ length xs → P (take k (drop 1 xs)))
    (later : (xs : List ℕ) → Q xs → Q (drop (suc k) xs)) where
  each_in : (n : ℕ) (xs : List ℕ) → n ≡ length xs / suc k → Q xs → EachFrame P (frames_in k n xs)
  unfolding frames_in
  each_in zero xs e q = none
  each_in (suc n) xs e q = go (lt_or_le (length xs) (suc k)) (each_in n (drop (suc k) xs))
    where
      go : (length xs < suc k) ⊎ (suc k ≤ length xs) → (n ≡ length (drop (suc k) xs) / suc k → Q (drop (suc k) xs) → EachFrame P (frames_in k n (drop (suc k) xs)))
          → EachFrame P (first_frame k xs ∷ frames_in k n (drop (suc k) xs))
      go (inl l) rest = absurd (omega (arith, e, div-eq_of_lt {n = length xs} {m = suc k} l))
      go (inr l) rest =
          more (here xs q l)
          (rest (omega (arith, e, div-eq-sub-div {m = suc k} {n = length xs} (omega arith) l, ap (λ (m : ℕ). m / suc k) (length-drop (suc k) xs))) (later xs q))

  pub each_of : (xs : List ℕ) → Q xs → EachFrame P (frames_of k xs)
  unfolding frames_of
  each_of xs q = each_in (length xs / suc k) xs refl q

-- Each frame has k words.
abbrev pub Wide : ℕ → List ℕ → Type 0
Wide k ws = length ws ≡ k

pub frames_wide : (k : ℕ) (xs : List ℕ) → EachFrame (Wide k) (frames_of k xs)
frames_wide k xs = each_of k (Wide k) (λ ys. Unit) (λ ys q l. length-take-le k (drop 1 ys) (omega (arith, length-drop 1 ys))) (λ ys q. tt) xs tt

pub pairs_wide : (k : ℕ) (xs ys : List ℕ) → EachPair (Wide k) (matched (frames_of k xs) (frames_of k ys))
pairs_wide k xs ys = matched_each (Wide k) (frames_of k xs) (frames_of k ys) (frames_wide k xs) (frames_wide k ys)
