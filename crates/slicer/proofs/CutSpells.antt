-- Theorem `cut_spells`. Assumes nothing.
use mathlib.Core.Path.{◌≡◌}
use mathlib.Core.List.{List}
use Prim.Native.Nat.{ℕ, ◌≤◌}
use lib.ListN.{length}
use Rattle.terms.specs.Table.{rows_of, row_at}
use Rattle.answers.specs.Pairs.{pairs_of}
use Rattle.slices.specs.Cut.{spelled_pairs}
use Rattle.slicer.specs.inner.Cutting.{slices_in, SidesStand, CutsSides}

-- For every accepted table and each of its equations: the pairs that the slices of its cut spell, one slice behind the other, are the bit pairs of that
-- row (`pairs_of`), in order.
pub cut_spells : (table widths variables lows left right : List ℕ) (r width : ℕ) → SidesStand table widths variables lows left right r width
    → (cuts cuts' : List ℕ) (n : ℕ) → 3072 ≤ length cuts → CutsSides lows left right width cuts cuts' n
    → spelled_pairs (slices_in cuts' n) ≡ pairs_of (rows_of table) (row_at (rows_of table) r)
cut_spells table widths variables lows left right r width E cuts cuts' n room promised = (promised table widths variables r E room).cut.spells
