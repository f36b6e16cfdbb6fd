-- What the theorem `first_cut` says of slices (proofs/FirstCut.antt): where they end.
use Rattle.std.specs.Prelude.{◌≡◌, ◌⊎◌, true, ◌||◌, List, map, ℕ}
use Rattle.terms.specs.declared.Row.{Row}
use Rattle.forms.specs.Form.{form_from, piece_width}
use Rattle.sides.specs.inner.Sides.{left_side, right_side}
use Rattle.slices.specs.Borders.{ends_at, Some}
use Rattle.slices.specs.Cut.{Slice, slice_widths}

-- Whether the normal form of an equation's left or right filled side has a border behind the first k bits.
abbrev pub LeftBorder : List Row → Row → ℕ → Type 0
LeftBorder t r k = ends_at (map piece_width (form_from t (left_side t r))) k ≡ true

abbrev pub RightBorder : List Row → Row → ℕ → Type 0
RightBorder t r k = ends_at (map piece_width (form_from t (right_side t r))) k ≡ true

-- Slices have the borders of an equation's first cut: behind the first k bits exactly if the normal form of the left or of the right filled side
-- has one there. Every slice has a bit at least, and no other list of widths of at least 1 has these borders: there is no coarser cut, and no finer one.
pub record AtBorders (t : List Row) (r : Row) (cut : List Slice) : Type 0 where
  pub only : (k : ℕ) → ends_at (slice_widths cut) k ≡ true → LeftBorder t r k ⊎ RightBorder t r k
  pub each_left : (k : ℕ) → LeftBorder t r k → ends_at (slice_widths cut) k ≡ true
  pub each_right : (k : ℕ) → RightBorder t r k → ends_at (slice_widths cut) k ≡ true
  pub some : Some (slice_widths cut)
  pub no_other : (ws : List ℕ) → Some ws
      → ((k : ℕ) → ends_at ws k ≡ ends_at (map piece_width (form_from t (left_side t r))) k || ends_at (map piece_width (form_from t (right_side t r))) k)
      → ws ≡ slice_widths cut
