-- A form as it is written: the numbers of its pieces.
use mathlib.Core.Path.{◌≡◌, refl, ap}
use mathlib.Core.List.{List, [], ◌∷◌, ◌++◌}
use Prim.Native.Nat.{ℕ, ◌*◌}
use native.Mathlib.Omega.{arith}
use lib.ListN.{length}
use Rattle.forms.specs.declared.Piece.{Piece}
use Rattle.forms.specs.Form.{numbers_of}

pub numbers_append : (f g : List Piece) → numbers_of (f ++ g) ≡ numbers_of f ++ numbers_of g
unfolding numbers_of
numbers_append [] g = refl
numbers_append (p ∷ f) g = ap (λ (l : List ℕ). p.kind ∷ p.variable ∷ p.high ∷ p.low ∷ l) (numbers_append f g)

pub numbers_length : (f : List Piece) → length (numbers_of f) ≡ length f * 4
unfolding numbers_of
numbers_length [] = refl
numbers_length (p ∷ f) = omega (arith, numbers_length f)
