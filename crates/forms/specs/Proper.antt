-- What the theorems say of a form's pieces (proofs/Theorems.antt): each has a width of at least 1, and no two neighbours could be one.
use Rattle.std.specs.Prelude.{◌≡◌, true, false, List, [], ◌∷◌, ◌≤◌, ltb}
use Rattle.forms.specs.declared.Piece.{Piece}
use Rattle.forms.specs.Form.{meets}

-- A piece that can stand in a form: a fill ends at 0, and high is not below low. And a form of such pieces.
pub record Proper (p : Piece) : Type 0 where
  pub fill_low : ltb p.kind 2 ≡ true → p.low ≡ 0
  pub in_order : p.low ≤ p.high

pub data AllProper : List Piece → Type 0 where
  none : AllProper []
  some : {p : Piece} {form : List Piece} → Proper p → AllProper form → AllProper (p ∷ form)

-- A form that is maximally connected (document 001, section 3): no two neighbours meet.
pub data Maximal : List Piece → Type 0 where
  empty : Maximal []
  one : {p : Piece} → Maximal (p ∷ [])
  more : {p q : Piece} {form : List Piece} → meets p q ≡ false → Maximal (q ∷ form) → Maximal (p ∷ q ∷ form)
