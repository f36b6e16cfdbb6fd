-- What the functions promise of equations: the normal forms of an equation's filled sides, and its bit pairs as readers of these forms give
-- them.
use Rattle.std.specs.Prelude.{◌≡◌, false, List, [], ◌∷◌, ℕ, zero, suc, ◌+◌, ◌≤◌, ◌<◌, length, get_or}
use Rattle.laws.specs.Buffers.{overwrite}
use Rattle.terms.specs.declared.Row.{Row}
use Rattle.terms.specs.Table.{rows_of, row_at, bits_of, count_kind, source_of, evened, if_equation}
use Rattle.terms.specs.Faults.{absent}
use Rattle.terms.specs.inner.Places.{low_source}
use Rattle.forms.specs.Form.{form_from, numbers_of}
use Rattle.terms.specs.inner.Placed.{Numbered}
use Rattle.answers.specs.Pairs.{Pair, pairs_of}
use Rattle.sides.specs.declared.Reader.{Reader}
use Rattle.sides.specs.inner.Reading.{Stands}

-- An accepted table, its widths, the variables before each row, and the source of each variable's low bit.
pub record Prepared (table widths variables lows : List ℕ) : Type 0 where
  pub numbered : Numbered table widths variables
  pub lows_are : (v : ℕ) → v < count_kind 0 (rows_of table) → get_or lows v 0 ≡ low_source (rows_of table) v

-- The sources of an equation's left side, filled to the width of the right one, and those of its right side.
abbrev pub left_side : List Row → Row → List ℕ
left_side t r = evened (source_of t r.a) (source_of t r.b)

abbrev pub right_side : List Row → Row → List ℕ
right_side t r = evened (source_of t r.b) (source_of t r.a)

-- A buffer with the normal form of one side of row r written to its beginning. For a row that is no equation nothing is written.
unfoldable pub side_written : (List Row → Row → List ℕ) → List Row → ℕ → List ℕ → List ℕ
side_written side t r old = if_equation (row_at t r) (overwrite (numbers_of (form_from t (side t (row_at t r)))) old) old

-- The normal form of a row, brought to the width of another, was written, where the buffer has room.
abbrev pub WritesSide : List ℕ → List ℕ → List ℕ → ℕ → ℕ → List ℕ → List ℕ → Type 0
WritesSide table widths variables row other form form' =
    Numbered table widths variables → absent (rows_of table) row ≡ false → absent (rows_of table) other ≡ false → 4096 ≤ length form
    → form' ≡ overwrite (numbers_of (form_from (rows_of table) (evened (source_of (rows_of table) row) (source_of (rows_of table) other)))) form

-- The normal forms of the sides of row r stand in two buffers, and w is the number of its bit pairs.
pub record SidesWritten (t : List Row) (r : ℕ) (left left' right right' : List ℕ) (w : ℕ) : Type 0 where
  pub left_is : left' ≡ side_written left_side t r left
  pub right_is : right' ≡ side_written right_side t r right
  pub count : w ≡ length (pairs_of t (row_at t r))

-- What writing a row's sides promises, where the buffers have room.
abbrev pub WritesSides : List ℕ → List ℕ → List ℕ → ℕ → List ℕ → List ℕ → List ℕ → List ℕ → ℕ → Type 0
WritesSides table widths variables r left left' right right' w =
    Numbered table widths variables → r < length (rows_of table) → 4096 ≤ length left → 4096 ≤ length right
    → SidesWritten (rows_of table) r left left' right right' w

-- w pairs of two lists of sources, from number k on.
unfoldable pub pairs_from : List ℕ → List ℕ → ℕ → ℕ → List Pair
pairs_from left right k zero = []
pairs_from left right k (suc w) = record { left = get_or left k 0; right = get_or right k 0 } ∷ pairs_from left right (suc k) w

-- Readers of two forms give the w bit pairs of row r: at bit k one has source k of the left side, the other source k of the right side. No
-- piece goes on past the last pair.
pub record SidesRead (t : List Row) (r : ℕ) (lows left right : List ℕ) (w : ℕ) : Type 0 where
  pub left_read : (k : ℕ) (at : Reader) → k < w → Stands lows left k at → at.source ≡ get_or (left_side t (row_at t r)) k 0
  pub right_read : (k : ℕ) (at : Reader) → k < w → Stands lows right k at → at.source ≡ get_or (right_side t (row_at t r)) k 0
  pub left_ends : (k : ℕ) (at : Reader) → k < w → Stands lows left k at → k + at.left < w
  pub pairs : pairs_from (left_side t (row_at t r)) (right_side t (row_at t r)) 0 w ≡ pairs_of t (row_at t r)
  pub few : w ≤ 1024
  pub few_bits : bits_of t ≤ 4096
  pub left_small : (i : ℕ) → i < w → get_or (left_side t (row_at t r)) i 0 < bits_of t + 2
  pub right_small : (i : ℕ) → i < w → get_or (right_side t (row_at t r)) i 0 < bits_of t + 2
