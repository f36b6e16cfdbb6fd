-- The first cut of an equation (document 001, section 6, "slicing"): its two filled sides are cut wherever the normal form of either one has
-- a border, and nowhere else.
use Rattle.std.specs.Prelude.{◌≡◌, ◌||◌, List, [], ◌∷◌, ◌++◌, map, ℕ}
use Rattle.terms.specs.declared.Row.{Row}
use Rattle.terms.specs.Table.{source_of, evened}
use Rattle.forms.specs.Form.{form_from, piece_width}
use Rattle.answers.specs.Pairs.{Pair, pairs_of}
use Rattle.slices.specs.Along.{run_pairs}
use Rattle.slices.specs.Borders.{ends_at, Some}

-- A slice: the sources of its first bit on the left and on the right side of the equation, and how many bits it has.
pub record Slice : Type 0 where
  pub left : ℕ
  pub right : ℕ
  pub width : ℕ

-- The widths of slices, high end first.
unfoldable pub slice_widths : List Slice → List ℕ
slice_widths [] = []
slice_widths (s ∷ cut) = s.width ∷ slice_widths cut

-- The pairs that slices spell, one slice behind the other.
unfoldable pub spelled_pairs : List Slice → List Pair
spelled_pairs [] = []
spelled_pairs (s ∷ cut) = run_pairs s.left s.right s.width ++ spelled_pairs cut

-- The widths of the pieces of a filled side's normal form: the left side's and the right side's of an equation.
unfoldable pub left_widths : List Row → Row → List ℕ
left_widths t r = map piece_width (form_from t (evened (source_of t r.a) (source_of t r.b)))

unfoldable pub right_widths : List Row → Row → List ℕ
right_widths t r = map piece_width (form_from t (evened (source_of t r.b) (source_of t r.a)))

-- Slices are the first cut of an equation r of the table t: a slice ends behind the first k bits exactly if a piece of the left or of the
-- right side's normal form does, for every k; every slice has a bit at least; and they spell the equation's bit pairs, in order.
pub record FirstCut (t : List Row) (r : Row) (cut : List Slice) : Type 0 where
  pub borders : (k : ℕ) → ends_at (slice_widths cut) k ≡ ends_at (left_widths t r) k || ends_at (right_widths t r) k
  pub some : Some (slice_widths cut)
  pub spells : spelled_pairs cut ≡ pairs_of t r
