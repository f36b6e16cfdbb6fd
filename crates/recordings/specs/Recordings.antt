-- Recordings (document 02, (xi)): frames, the pairs of frames with equal counters, the frames found on one side only, and the bits in which the
-- words of a pair differ. Nothing here is sorted, merged or masked: each definition looks at all frames.
use Rattle.std.specs.Prelude.{Bool, true, false, not, ◌&&◌, ◌||◌, cond, List, [], ◌∷◌, ◌++◌, ℕ, zero, suc, ◌+◌, ◌/◌, eqb, ltb, length, get_or, take, drop}
use Rattle.terms.specs.declared.Row.{Row}
use Rattle.terms.specs.Table.{satisfies}
use Rattle.laws.specs.Binary.{binary}
use Rattle.windows.specs.Words.{words_bits}

-- A record of a recording: the frame counter, and the words.
pub record Frame : Type 0 where
  pub counter : ℕ
  pub words : List ℕ

-- The first frame of a run of numbers, with k words: the counter stands first.
abbrev pub first_frame : ℕ → List ℕ → Frame
first_frame k numbers = record { counter = get_or numbers 0 0; words = take k (drop 1 numbers) }

-- The first n frames; all that are whole.
unfoldable pub frames_in : ℕ → ℕ → List ℕ → List Frame
frames_in k zero numbers = []
frames_in k (suc n) numbers = first_frame k numbers ∷ frames_in k n (drop (suc k) numbers)

unfoldable pub frames_of : ℕ → List ℕ → List Frame
frames_of k numbers = frames_in k (length numbers / suc k) numbers

-- A pair: a sent and a received frame with equal counters.
pub record Match : Type 0 where
  pub counter : ℕ
  pub sent : List ℕ
  pub received : List ℕ

-- The pairs of one sent frame: one with each received frame that has its counter.
unfoldable pub pairs_with : Frame → List Frame → List Match
pairs_with s [] = []
pairs_with s (r ∷ rs) =
    cond (eqb r.counter s.counter) (record { counter = s.counter; sent = s.words; received = r.words } ∷ pairs_with s rs) (pairs_with s rs)

-- All pairs, in the order of the sent frames.
unfoldable pub matched : List Frame → List Frame → List Match
matched [] rs = []
matched (s ∷ ss) rs = pairs_with s rs ++ matched ss rs

-- Whether a frame has this counter.
unfoldable pub has : ℕ → List Frame → Bool
has c [] = false
has c (f ∷ fs) = eqb f.counter c || has c fs

-- The frames of the first recording whose counter no frame of the second has.
unfoldable pub alone : List Frame → List Frame → List Frame
alone [] ys = []
alone (x ∷ xs) ys = cond (has x.counter ys) (alone xs ys) (x ∷ alone xs ys)

-- Whether each counter is above c; whether each frame's counter is below those of all behind it.
unfoldable pub above : ℕ → List Frame → Bool
above c [] = true
above c (f ∷ fs) = ltb c f.counter && above c fs

unfoldable pub rising : List Frame → Bool
rising [] = true
rising (f ∷ fs) = above f.counter fs && rising fs

-- At how many places two words of bits differ; in how many of their w bits two numbers do.
unfoldable pub differing_in : List ℕ → List ℕ → ℕ
differing_in [] ys = 0
differing_in (x ∷ xs) [] = 0
differing_in (x ∷ xs) (y ∷ ys) = cond (eqb x y) 0 1 + differing_in xs ys

unfoldable pub differing_bits : ℕ → ℕ → ℕ → ℕ
differing_bits w a b = differing_in (binary w a) (binary w b)

-- In how many bits words of 16 bits differ, word by word; and over all pairs.
unfoldable pub differing_words : List ℕ → List ℕ → ℕ
differing_words [] ys = 0
differing_words (x ∷ xs) [] = 0
differing_words (x ∷ xs) (y ∷ ys) = differing_bits 16 x y + differing_words xs ys

unfoldable pub differences : List Match → ℕ
differences [] = 0
differences (m ∷ ms) = differing_words m.sent m.received + differences ms

-- Whether a pair breaks (does not satisfy) a sheet, whose variables are the sent words and then the received ones; the pairs that do.
unfoldable pub broken : List Row → Match → Bool
broken t m = not (satisfies t (words_bits (m.sent ++ m.received)))

unfoldable pub breaking : List Row → List Match → List Match
breaking t [] = []
breaking t (m ∷ ms) = cond (broken t m) (m ∷ breaking t ms) (breaking t ms)

-- The counter of the first of some pairs, 0 if there is none.
unfoldable pub first_counter : List Match → ℕ
first_counter [] = 0
first_counter (m ∷ ms) = m.counter
