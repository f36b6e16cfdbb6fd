-- Theorem `first_cut`. Assumes nothing.
use mathlib.Core.Path.{◌≡◌, refl, sym, ◌∙◌}
use mathlib.Core.Logic.{◌⊎◌, inl, inr}
use mathlib.Core.Bool.{Bool, true, false, ◌||◌}
use mathlib.Core.List.{List}
use Prim.Native.Nat.{ℕ, ◌≤◌, ◌<◌}
use lib.ListN.{length, take}
use Rattle.laws.proofs.Bools.{or_left, or_right}
use Rattle.laws.proofs.Lists.{tab, tab_at}
use Rattle.terms.specs.declared.Row.{Row}
use Rattle.terms.specs.Faults.{Accepted, first_fault}
use Rattle.terms.specs.Table.{rows_of, row_at, widths_of, count_kind}
use Rattle.terms.specs.inner.Places.{low_source}
use Rattle.answers.specs.Pairs.{pairs_of}
use Rattle.sides.specs.inner.Sides.{left_side, right_side, side_written}
use Rattle.slices.specs.Borders.{ends_at}
use Rattle.slices.specs.Cut.{Slice, slice_widths, left_widths, right_widths, FirstCut}
use Rattle.slices.proofs.Ends.{ends_same}
use Rattle.slicer.specs.Borders.{AtBorders}
use Rattle.slicer.specs.inner.Cutting.{slices_in, SidesStand, CutsSides}

either : (a b : Bool) → a || b ≡ true → (a ≡ true) ⊎ (b ≡ true)
either true b e = inl refl
either false b e = inr e

at_borders : (t : List Row) (r : Row) (cut : List Slice) → FirstCut t r cut → AtBorders t r cut
unfolding left_widths right_widths
at_borders t r cut C =
    record {
      only = λ k e. either (ends_at (left_widths t r) k) (ends_at (right_widths t r) k) (sym (C.borders k) ∙ e);
      each_left = λ k e. C.borders k ∙ or_left (ends_at (left_widths t r) k) (ends_at (right_widths t r) k) e;
      each_right = λ k e. C.borders k ∙ or_right (ends_at (left_widths t r) k) (ends_at (right_widths t r) k) e;
      some = C.some;
      no_other = λ ws k same. ends_same ws (slice_widths cut) k C.some (λ j. same j ∙ sym (C.borders j));
    }

-- For every accepted table and each of its equations, whose filled sides' normal forms stand in two buffers as crate sides writes them (`SidesStand`):
-- the cut that `cut_sides` writes has a border behind k bits exactly if the left or the right filled side's normal form has one, for every k; every
-- slice has a bit at least, and no other list of widths has these borders.
pub first_cut : (table widths variables lows left right : List ℕ) (r width : ℕ) → SidesStand table widths variables lows left right r width
    → (cuts cuts' : List ℕ) (n : ℕ) → 3072 ≤ length cuts → CutsSides lows left right width cuts cuts' n
    → AtBorders (rows_of table) (row_at (rows_of table) r) (slices_in cuts' n)
first_cut table widths variables lows left right r width E cuts cuts' n room promised =
    at_borders (rows_of table) (row_at (rows_of table) r) (slices_in cuts' n) (promised table widths variables r E room).cut

-- And there is nothing to ask of an accepted table and an equation of it: their forms can stand in any two buffers with room.
pub sides_stand : (table : List ℕ) (r : ℕ) → first_fault table ≡ Accepted → r < length (rows_of table) → (row_at (rows_of table) r).kind ≡ 4
    → (left right : List ℕ) → 4096 ≤ length left → 4096 ≤ length right
    → SidesStand table (widths_of (rows_of table)) (tab (length (rows_of table)) (λ i. count_kind 0 (take i (rows_of table)))) (tab (count_kind 0 (rows_of table)) (low_source (rows_of table)))
    (side_written left_side (rows_of table) r left) (side_written right_side (rows_of table) r right) r (length (pairs_of (rows_of table) (row_at (rows_of table) r)))
sides_stand table r accepted inside equation left right roomₗ roomᵣ =
    record {
      prepared = record {
        numbered = record {
          accepted = accepted;
          widths_are = λ i l. refl;
          variables_are = λ i l. tab_at (length (rows_of table)) (λ j. count_kind 0 (take j (rows_of table))) i l;
        };
        lows_are = λ v l. tab_at (count_kind 0 (rows_of table)) (low_source (rows_of table)) v l;
      };
      inside = inside;
      equation = equation;
      left₀ = left;
      right₀ = right;
      left_room = roomₗ;
      right_room = roomᵣ;
      written = record { left_is = refl; right_is = refl; count = refl };
    }
