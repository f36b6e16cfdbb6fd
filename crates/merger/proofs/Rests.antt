-- What is left of a recording from an offset on: its first record and the rest behind it; and where its counters rise. Assumes nothing.
use mathlib.Core.Path.{◌≡◌, refl, sym, ◌∙◌, ap, ap₂}
use mathlib.Core.Bool.{true, false, ◌&&◌}
use mathlib.Core.List.{List, [], ◌∷◌}
use mathlib.Core.Logic.{◌⊎◌, inl, inr}
use Prim.Native.Nat.{ℕ, suc, ◌+◌, ◌%◌, ◌<◌, ◌≤◌}
use native.Mathlib.Omega.{arith}
use native.Mathlib.Numerals.{add-one}
use lib.Dec.{ltb}
use lib.ListN.{length, get_or, take, drop, length-drop}
use lib.Seq.{drop-drop, get_or-drop}
use borrow.Author.Tests.{lt-ltb, le-ltb}
use Rattle.laws.proofs.Numbers.{lt_or_le}
use Rattle.recordings.specs.Recordings.{Frame, frames_of, above, rising}
use Rattle.recordings.proofs.Frames.{frames_none, frames_more, whole_more, whole_some}
use Rattle.recordings.proofs.Rising.{rising_step}
use Rattle.merger.specs.inner.Passing.{words_at}

-- The record at an offset.
abbrev pub frame_at : ℕ → List ℕ → ℕ → Frame
frame_at k numbers i = record { counter = get_or numbers i 0; words = words_at k numbers i }

module _ (k : ℕ) (numbers : List ℕ) (i : ℕ) where
  -- a rest that is whole records and not empty
  module _ (w : length (drop i numbers) % suc k ≡ 0) (l : i < length numbers) where
    room : suc k ≤ length (drop i numbers)
    room = whole_some k (drop i numbers) w (omega (arith, length-drop i numbers))

    pub rest_room : i + (k + 1) ≤ length numbers
    rest_room = omega (arith, room, length-drop i numbers)

    behind : drop (suc k) (drop i numbers) ≡ drop (i + (k + 1)) numbers
    behind = drop-drop (suc k) i numbers ∙ ap (λ (n : ℕ). drop (i + n) numbers) (sym (add-one k))

    pub rest_whole : length (drop (i + (k + 1)) numbers) % suc k ≡ 0
    rest_whole = ap (λ (xs : List ℕ). length xs % suc k) (sym behind) ∙ whole_more k (drop i numbers) w room

    pub rest_frames : frames_of k (drop i numbers) ≡ frame_at k numbers i ∷ frames_of k (drop (i + (k + 1)) numbers)
    rest_frames =
        let e : i + 0 ≡ i = omega arith in
        let counter : get_or (drop i numbers) 0 0 ≡ get_or numbers i 0 = get_or-drop i numbers 0 0 ∙ ap (λ (n : ℕ). get_or numbers n 0) e in
        let words : take k (drop 1 (drop i numbers)) ≡ words_at k numbers i = ap (take k) (drop-drop 1 i numbers) in
        frames_more k (drop i numbers) room
        ∙ ap₂ (λ (f : Frame) (fs : List Frame). f ∷ fs) (ap₂ (λ (c : ℕ) (ws : List ℕ). record { counter = c; words = ws }) counter words) (ap (frames_of k) behind)

  -- an empty rest
  pub rest_none : length numbers ≤ i → frames_of k (drop i numbers) ≡ []
  rest_none l = frames_none k (drop i numbers) (omega (arith, length-drop i numbers))

-- ---- counters that rise
module _ (k : ℕ) (numbers : List ℕ) (i : ℕ) (w : length (drop i numbers) % suc k ≡ 0) where
  rise_more : i + (k + 1) < length numbers
      → rising (frames_of k (drop i numbers)) ≡ ltb (get_or numbers i 0) (get_or numbers (i + (k + 1)) 0) && rising (frames_of k (drop (i + (k + 1)) numbers))
  rise_more l =
      let here = rest_frames k numbers i w (omega arith) in
      let next = rest_frames k numbers (i + (k + 1)) (rest_whole k numbers i w (omega arith)) l in
      ap rising (here ∙ ap (λ (fs : List Frame). frame_at k numbers i ∷ fs) next)
      ∙ rising_step (frame_at k numbers i) (frame_at k numbers (i + (k + 1))) (frames_of k (drop (i + (k + 1) + (k + 1)) numbers))
      ∙ ap (λ (fs : List Frame). ltb (get_or numbers i 0) (get_or numbers (i + (k + 1)) 0) && rising fs) (sym next)

  pub rise_falls : i + (k + 1) < length numbers → get_or numbers (i + (k + 1)) 0 ≤ get_or numbers i 0 → false ≡ rising (frames_of k (drop i numbers))
  rise_falls l h = sym (rise_more l ∙ rw (le-ltb (get_or numbers i 0) (get_or numbers (i + (k + 1)) 0) h))

  pub rise_goes : i + (k + 1) < length numbers → get_or numbers i 0 < get_or numbers (i + (k + 1)) 0
      → rising (frames_of k (drop (i + (k + 1)) numbers)) ≡ rising (frames_of k (drop i numbers))
  rise_goes l h = sym (rise_more l ∙ rw (lt-ltb (get_or numbers i 0) (get_or numbers (i + (k + 1)) 0) h))

  pub rise_last : length numbers ≤ i + (k + 1) → rising (frames_of k (drop i numbers)) ≡ true
  unfolding rising above
  rise_last l = go (lt_or_le i (length numbers))
    where
      go : (i < length numbers) ⊎ (length numbers ≤ i) → rising (frames_of k (drop i numbers)) ≡ true
      go (inl h) = rw (rest_frames k numbers i w h, frames_none k (drop (i + (k + 1)) numbers) (omega (arith, length-drop (i + (k + 1)) numbers))) refl
      go (inr h) = rw (rest_none k numbers i h) refl
