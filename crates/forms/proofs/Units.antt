-- A source as a piece is proper and one bit wide. So a form of sources is as wide as there are sources.
use mathlib.Core.Path.{◌≡◌, refl, ◌∙◌}
use mathlib.Core.Bool.{cond}
use mathlib.Core.List.{List, [], ◌∷◌, ◌++◌, map}
use Prim.Native.Nat.{ℕ, zero, suc, ◌+◌, ◌-◌, ◌≤◌}
use native.Mathlib.Omega.{arith}
use lib.Dec.{eqb}
use lib.ListN.{length, get_or, length-map}
use Rattle.terms.specs.declared.Row.{Row}
use Rattle.terms.specs.Table.{if_variable}
use Rattle.terms.proofs.RowKinds.{by_variable}
use Rattle.laws.proofs.Bools.{not_both}
use Rattle.forms.specs.declared.Piece.{Piece}
use Rattle.forms.specs.Form.{fill, part, bits_up, place_pieces, piece_of, form_from, piece_width, form_width}
use Rattle.forms.proofs.PieceWidths.{group_proper, group_width, group-count}
use Rattle.forms.specs.Proper.{Proper, AllProper, none, some}

pub record Unit-bit (p : Piece) : Type 0 where
  pub proper : Proper p
  pub wide : piece_width p ≡ 1

data AllUnit : List Piece → Type 0 where
  nothing : AllUnit []
  another : {p : Piece} {f : List Piece} → Unit-bit p → AllUnit f → AllUnit (p ∷ f)

fill_unit : (b : ℕ) → Unit-bit (fill b 0)
unfolding piece_width
fill_unit b = record { proper = record { fill_low = λ h. refl; in_order = omega arith }; wide = refl }

part_unit : (v i : ℕ) → Unit-bit (part v i i)
unfolding piece_width
part_unit v i = record { proper = record { fill_low = λ h. absurd (not_both h refl); in_order = omega arith }; wide = omega arith }

bits_unit : (v low n : ℕ) → AllUnit (bits_up v low n)
unfolding bits_up
bits_unit v low zero = nothing
bits_unit v low (suc n) = another (part_unit v (low + n)) (bits_unit v low n)

append_unit : (f g : List Piece) → AllUnit f → AllUnit g → AllUnit (f ++ g)
append_unit f g nothing k = k
append_unit f g (another {f = rest} u us) k = another u (append_unit rest g us k)

row_unit : (v : ℕ) (r : Row) → AllUnit (if_variable r (bits_up v 0 r.a) [])
row_unit v r = by_variable r (bits_up v 0 r.a) [] AllUnit (λ e. bits_unit v 0 r.a) (λ h. nothing)

places_unit : (v : ℕ) (t : List Row) → AllUnit (place_pieces v t)
unfolding place_pieces
places_unit v [] = nothing
places_unit v (r ∷ t) = append_unit _ _ (row_unit v r) (places_unit (v + cond (eqb r.kind 0) 1 0) t)

unit_at : (f : List Piece) → AllUnit f → (i : ℕ) → Unit-bit (get_or f i (fill 0 0))
unit_at f nothing i = fill_unit 0
unit_at f (another u us) zero = u
unit_at f (another {f = rest} u us) (suc i) = unit_at rest us i

pub source_unit : (t : List Row) (s : ℕ) → Unit-bit (piece_of t s)
unfolding piece_of
source_unit t s = unit_at (fill 0 0 ∷ fill 1 0 ∷ place_pieces 0 t) (another (fill_unit 0) (another (fill_unit 1) (places_unit 0 t))) s

pub sources_proper : (t : List Row) (xs : List ℕ) → AllProper (map (piece_of t) xs)
sources_proper t [] = none
sources_proper t (x ∷ xs) = some (source_unit t x).proper (sources_proper t xs)

sources_width : (t : List Row) (xs : List ℕ) → form_width (map (piece_of t) xs) ≡ length xs
unfolding form_width
sources_width t [] = refl
sources_width t (x ∷ xs) = omega (arith, (source_unit t x).wide, sources_width t xs)

-- the pieces of a form of sources are proper, and their widths add up to the number of sources
pub form_proper : (t : List Row) (xs : List ℕ) → AllProper (form_from t xs)
unfolding form_from
form_proper t xs = group_proper (map (piece_of t) xs) (sources_proper t xs)

pub form-width : (t : List Row) (xs : List ℕ) → form_width (form_from t xs) ≡ length xs
unfolding form_from
form-width t xs = group_width (map (piece_of t) xs) (sources_proper t xs) ∙ sources_width t xs

-- and there are no more pieces than sources
pub form_count : (t : List Row) (xs : List ℕ) → length (form_from t xs) ≤ length xs
unfolding form_from
form_count t xs = omega (arith, group-count (map (piece_of t) xs), length-map xs (piece_of t))
