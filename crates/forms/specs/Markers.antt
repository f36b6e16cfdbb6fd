-- What the theorems say of the normal form of a value, a marker written as a number (document 02, (i); proofs/Markers.antt).
use Rattle.std.specs.Prelude.{◌≡◌, List, [], ◌∷◌, ℕ, ◌-◌, ◌≤◌}
use Rattle.terms.specs.declared.Row.{Row}
use Rattle.terms.specs.Table.{bits_of}
use Rattle.terms.specs.Assignments.{Assignment}
use Rattle.terms.specs.Sound.{IsFill}
use Rattle.laws.specs.Binary.{binary}
use Rattle.forms.specs.declared.Piece.{Piece}
use Rattle.forms.specs.Form.{fill, form_of, form_value}

-- A form of fills, no two neighbours of which are alike.
pub data Fills : List Piece → Type 0 where
  none : Fills []
  last : (b n : ℕ) → b ≤ 1 → Fills (fill b n ∷ [])
  next : (b n c m : ℕ) {form : List Piece} → b ≤ 1 → (b ≡ c → ⊥) → Fills (fill c m ∷ form) → Fills (fill b n ∷ fill c m ∷ form)

-- The form of the number a in w bits, row r: fills, no two neighbours alike, that have the number's bits under every pattern.
pub record MarkerForm (t : List Row) (r a w : ℕ) : Type 0 where
  pub fills : Fills (form_of t r)
  pub value : (p : List ℕ) → Assignment (bits_of t) p → form_value t p (form_of t r) ≡ binary w a

-- The form of w bits that are all x, row r: one fill, as that of a fill of x that is w wide.
pub record FillForm (t : List Row) (r x w : ℕ) : Type 0 where
  pub one_piece : form_of t r ≡ fill x (w - 1) ∷ []
  pub same : {s : ℕ} → IsFill t s x w → form_of t r ≡ form_of t s
