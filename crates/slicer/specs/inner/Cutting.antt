-- What the functions that cut an equation's sides promise.
use Rattle.std.specs.Prelude.{◌≡◌, cond, List, [], ◌∷◌, ◌++◌, ℕ, zero, suc, ◌+◌, ◌-◌, ◌*◌, ◌%◌, ◌≤◌, ◌<◌, eqb, ltb, length, get_or, set}
use Rattle.terms.specs.declared.Row.{Row}
use Rattle.terms.specs.Table.{rows_of, row_at, bits_of}
use Rattle.sides.specs.declared.Reader.{Reader}
use Rattle.sides.specs.inner.Reading.{first_in}
use Rattle.sides.specs.inner.Sides.{Prepared, SidesWritten}
use Rattle.slices.specs.Along.{along}
use Rattle.slices.specs.Cut.{Slice, FirstCut}

-- The reader n bits on in its piece: the source of a fill stands still.
unfoldable pub moved_by : ℕ → Reader → Reader
moved_by n at =
    record { piece = at.piece; source = cond (eqb at.step 0) at.source ((at.source + n) % 65536); step = at.step; left = at.left - n }

-- The reader n bits on: in its piece, or at the first bit of the next one.
unfoldable pub passed_in : List ℕ → List ℕ → Reader → ℕ → Reader
passed_in lows form at n = cond (ltb at.left n) (first_in lows form ((at.piece + 1) % 65536)) (moved_by n at)

-- Slice i in a buffer: three numbers. And the first n slices.
unfoldable pub slice_at : List ℕ → ℕ → Slice
slice_at cuts i = record { left = get_or cuts (i * 3) 0; right = get_or cuts (i * 3 + 1) 0; width = get_or cuts (i * 3 + 2) 0 }

unfoldable pub slices_in : List ℕ → ℕ → List Slice
slices_in cuts zero = []
slices_in cuts (suc n) = slices_in cuts n ++ (slice_at cuts n ∷ [])

-- Where there is room for it, slice i is written, and nothing else.
abbrev pub PutsSlice : ℕ → ℕ → ℕ → ℕ → List ℕ → List ℕ → Type 0
PutsSlice i left right width cuts cuts' =
    i * 3 + 3 ≤ length cuts → cuts' ≡ set (set (set cuts (i * 3) left) (i * 3 + 1) right) (i * 3 + 2) width

-- The normal forms of the filled sides of equation r stand at the beginning of two buffers, and `width` is the number of its bit pairs.
pub record SidesStand (table widths variables lows left right : List ℕ) (r width : ℕ) : Type 0 where
  pub prepared : Prepared table widths variables lows
  pub inside : r < length (rows_of table)
  pub equation : (row_at (rows_of table) r).kind ≡ 4
  pub left₀ : List ℕ
  pub right₀ : List ℕ
  pub left_room : 4096 ≤ length left₀
  pub right_room : 4096 ≤ length right₀
  pub written : SidesWritten (rows_of table) r left₀ left right₀ right width

-- The n slices in a buffer are the first cut of equation r, and their sources are the table's.
pub record SidesCut (t : List Row) (r : ℕ) (cuts : List ℕ) (n : ℕ) : Type 0 where
  pub cut : FirstCut t (row_at t r) (slices_in cuts n)
  pub few : n ≤ 1024
  pub left_small : (i : ℕ) → i < n → (j : ℕ) → j < (slice_at cuts i).width → along (slice_at cuts i).left j < bits_of t + 2
  pub right_small : (i : ℕ) → i < n → (j : ℕ) → j < (slice_at cuts i).width → along (slice_at cuts i).right j < bits_of t + 2

-- What cutting promises, where an equation's sides stand and there is room for a slice for each bit.
abbrev pub CutsSides : List ℕ → List ℕ → List ℕ → ℕ → List ℕ → List ℕ → ℕ → Type 0
CutsSides lows left right width cuts cuts' n =
    (table widths variables : List ℕ) (r : ℕ) → SidesStand table widths variables lows left right r width → 3072 ≤ length cuts
    → SidesCut (rows_of table) r cuts' n
