-- (h) Counters that rise strictly: each is below all behind it exactly if each is below the next. Assumes nothing.
use mathlib.Core.Path.{◌≡◌, refl, ◌∙◌, ap}
use mathlib.Core.Bool.{true, ◌&&◌}
use mathlib.Core.List.{List, [], ◌∷◌}
use Prim.Native.Nat.{ℕ, zero, suc, ◌+◌, ◌*◌, ◌/◌, ◌<◌, ◌≤◌}
use native.Mathlib.Nat.{suc-mul}
use native.Mathlib.Omega.{arith}
use lib.Dec.{ltb}
use lib.ListN.{length, get_or, drop}
use lib.Seq.{get_or-drop}
use borrow.Author.Tests.{ltb-true, lt-ltb}
use Rattle.laws.proofs.Bools.{and_parts, and_both, same_test}
use Rattle.recordings.specs.Recordings.{Frame, frames_in, frames_of, above, rising}
use Rattle.recordings.specs.Compared.{Rises}
use Rattle.recordings.proofs.Frames.{frames_number}

-- ---- counters that are all above a counter
pub above_parts : (c : ℕ) (f : Frame) (fs : List Frame) → above c (f ∷ fs) ≡ true → (c < f.counter) × (above c fs ≡ true)
unfolding above
above_parts c f fs h = let b = and_parts (ltb c f.counter) (above c fs) h in (ltb-true c f.counter b.0, b.1)

pub above_lower : (d c : ℕ) (fs : List Frame) → d ≤ c → above c fs ≡ true → above d fs ≡ true
unfolding above
above_lower d c [] l h = refl
above_lower d c (f ∷ fs) l h =
    let b = above_parts c f fs h in
    and_both (ltb d f.counter) (above d fs) (lt-ltb d f.counter (omega (arith, b.0))) (above_lower d c fs l b.1)

pub rising_parts : (f : Frame) (fs : List Frame) → rising (f ∷ fs) ≡ true → (above f.counter fs ≡ true) × (rising fs ≡ true)
unfolding rising
rising_parts f fs h = and_parts (above f.counter fs) (rising fs) h

-- a counter below the first of frames that rise is below all
pub above-all : (c : ℕ) (f : Frame) (fs : List Frame) → c < f.counter → rising (f ∷ fs) ≡ true → above c (f ∷ fs) ≡ true
unfolding above
above-all c f fs l h =
    and_both (ltb c f.counter) (above c fs) (lt-ltb c f.counter l) (above_lower c f.counter fs (omega arith) (rising_parts f fs h).0)

-- ---- it is enough that each is below the next
pub rising_step : (f g : Frame) (fs : List Frame) → rising (f ∷ g ∷ fs) ≡ ltb f.counter g.counter && rising (g ∷ fs)
unfolding rising
rising_step f g fs = same_test (rising (f ∷ g ∷ fs)) (ltb f.counter g.counter && rising (g ∷ fs)) to of
  where
    to : rising (f ∷ g ∷ fs) ≡ true → ltb f.counter g.counter && rising (g ∷ fs) ≡ true
    to h =
        let p = rising_parts f (g ∷ fs) h in
        and_both (ltb f.counter g.counter) (rising (g ∷ fs)) (lt-ltb f.counter g.counter (above_parts f.counter g fs p.0).0) p.1

    of : ltb f.counter g.counter && rising (g ∷ fs) ≡ true → rising (f ∷ g ∷ fs) ≡ true
    of h =
        let p = and_parts (ltb f.counter g.counter) (rising (g ∷ fs)) h in
        and_both (above f.counter (g ∷ fs)) (rising (g ∷ fs)) (above-all f.counter g fs (ltb-true f.counter g.counter p.0) p.1) p.1

abbrev no_frame : Frame
no_frame = record { counter = 0; words = [] }

rising_at : (fs : List Frame) → rising fs ≡ true → (j : ℕ) → suc j < length fs → (get_or fs j no_frame).counter < (get_or fs (suc j) no_frame).counter
rising_at [] h j l = absurd (omega arith)
rising_at (f ∷ []) h j l = absurd (omega arith)
rising_at (f ∷ (g ∷ fs)) h zero l = (above_parts f.counter g fs (rising_parts f (g ∷ fs) h).0).0
rising_at (f ∷ (g ∷ fs)) h (suc j) l = rising_at (g ∷ fs) (rising_parts f (g ∷ fs) h).1 j (omega arith)

rising_of : (fs : List Frame) → ((j : ℕ) → suc j < length fs → (get_or fs j no_frame).counter < (get_or fs (suc j) no_frame).counter) → rising fs ≡ true
unfolding rising above
rising_of [] h = refl
rising_of (f ∷ fs) h = go fs h (rising_of fs (λ j l. h (suc j) (omega arith)))
  where
    go : (gs : List Frame) → ((j : ℕ) → suc j < length (f ∷ gs) → (get_or (f ∷ gs) j no_frame).counter < (get_or (f ∷ gs) (suc j) no_frame).counter) → rising gs ≡ true
        → rising (f ∷ gs) ≡ true
    go [] k m = refl
    go (g ∷ gs) k m = rising_step f g gs ∙ and_both (ltb f.counter g.counter) (rising (g ∷ gs)) (lt-ltb f.counter g.counter (k 0 (omega arith))) m

-- ---- the counters of a run of numbers
counter_in : (k n : ℕ) (xs : List ℕ) (j : ℕ) → j < n → (get_or (frames_in k n xs) j no_frame).counter ≡ get_or xs (j * suc k) 0
unfolding frames_in
counter_in k zero xs j l = absurd (omega arith)
counter_in k (suc n) xs zero l = let e : 0 ≡ 0 * suc k = omega arith in ap (λ (i : ℕ). get_or xs i 0) e
counter_in k (suc n) xs (suc j) l =
    let e : suc k + j * suc k ≡ suc j * suc k = omega (arith, suc-mul j (suc k)) in
    counter_in k n (drop (suc k) xs) j (omega arith) ∙ get_or-drop (suc k) xs (j * suc k) 0 ∙ ap (λ (i : ℕ). get_or xs i 0) e

counter_at : (k : ℕ) (xs : List ℕ) (j : ℕ) → j < length xs / suc k → (get_or (frames_of k xs) j no_frame).counter ≡ get_or xs (j * suc k) 0
unfolding frames_of
counter_at k xs j l = counter_in k (length xs / suc k) xs j l

pub rises_at : (k : ℕ) (xs : List ℕ) → rising (frames_of k xs) ≡ true → Rises k xs
rises_at k xs h j l =
    let a = counter_at k xs j (omega arith) in
    let b = counter_at k xs (suc j) l in
    omega (arith, rising_at (frames_of k xs) h j (omega (arith, frames_number k xs)))

pub rises_of : (k : ℕ) (xs : List ℕ) → Rises k xs → rising (frames_of k xs) ≡ true
rises_of k xs h =
    rising_of (frames_of k xs)
    (λ j l.
    let m : suc j < length xs / suc k = omega (arith, frames_number k xs) in
    let a = counter_at k xs j (omega arith) in
    let b = counter_at k xs (suc j) m in
    omega (arith, h j m))
