-- The frames of a run of numbers: how many they are, the first of them and the run behind it, and the counter of each. Assumes nothing.
use mathlib.Core.Path.{◌≡◌, refl, sym, ◌∙◌, ap}
use mathlib.Core.List.{List, [], ◌∷◌}
use mathlib.Core.Logic.{◌⊎◌, inl, inr}
use Prim.Native.Nat.{ℕ, zero, suc, ◌-◌, ◌/◌, ◌%◌, ◌<◌, ◌≤◌}
use native.Mathlib.Omega.{arith}
use native.Mathlib.Nat.{zero-div, div-eq-sub-div, mod-eq-sub-mod, mod-eq_of_lt}
use lib.ListN.{length, drop, length-drop}
use Rattle.laws.proofs.Numbers.{lt_or_le}
use Rattle.recordings.specs.Recordings.{first_frame, frames_in, frames_of}

in_number : (k n : ℕ) (xs : List ℕ) → length (frames_in k n xs) ≡ n
unfolding frames_in
in_number k zero xs = refl
in_number k (suc n) xs = ap suc (in_number k n (drop (suc k) xs))

pub frames_number : (k : ℕ) (xs : List ℕ) → length (frames_of k xs) ≡ length xs / suc k
unfolding frames_of
frames_number k xs = in_number k (length xs / suc k) xs

pub frames_none : (k : ℕ) (xs : List ℕ) → length xs ≡ 0 → frames_of k xs ≡ []
unfolding frames_of frames_in
frames_none k xs e = rw (e, zero-div (suc k)) refl

pub frames_more : (k : ℕ) (xs : List ℕ) → suc k ≤ length xs → frames_of k xs ≡ first_frame k xs ∷ frames_of k (drop (suc k) xs)
unfolding frames_of frames_in
frames_more k xs l =
    let n : length xs / suc k ≡ suc (length (drop (suc k) xs) / suc k) =
    div-eq-sub-div {m = suc k} (omega arith) l ∙ omega (arith, ap (λ (m : ℕ). m / suc k) (length-drop (suc k) xs)) in
    ap (λ (m : ℕ). frames_in k m xs) n

-- ---- a rest that is whole frames: it is empty, or it has a frame and a rest that is whole frames
pub whole_more : (k : ℕ) (xs : List ℕ) → length xs % suc k ≡ 0 → suc k ≤ length xs → length (drop (suc k) xs) % suc k ≡ 0
whole_more k xs w l = ap (λ (m : ℕ). m % suc k) (length-drop (suc k) xs) ∙ sym (mod-eq-sub-mod {m = suc k} l) ∙ w

pub whole_some : (k : ℕ) (xs : List ℕ) → length xs % suc k ≡ 0 → 0 < length xs → suc k ≤ length xs
whole_some k xs w l = go (lt_or_le (length xs) (suc k))
  where
    go : (length xs < suc k) ⊎ (suc k ≤ length xs) → suc k ≤ length xs
    go (inl h) = absurd (omega (arith, mod-eq_of_lt {n = length xs} {m = suc k} h))
    go (inr h) = h
