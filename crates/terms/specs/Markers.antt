-- What the theorems say of a value, a marker written as a number (document 02, (i); proofs/Markers.antt): its bits, and when its row is
-- accepted.
use Rattle.std.specs.Prelude.{◌≡◌, List, [], ◌∷◌, ◌⊎◌, ℕ, ◌^◌, ◌<◌, ◌≤◌}
use Rattle.laws.specs.Binary.{binary, bits_number}
use Rattle.terms.specs.declared.Row.{Row}
use Rattle.terms.specs.Table.{width_of, value_of}
use Rattle.terms.specs.Faults.{Accepted, first_fault}
use Rattle.terms.specs.Acceptance.{Exactly, Refused}

-- Row r is the number a in w bits, which are 1 to 16 and hold it: under every pattern its value is these bits, and their number is a.
pub record Marker (t : List Row) (r a w : ℕ) : Type 0 where
  pub some : 1 ≤ w
  pub few : w ≤ 16
  pub fits : a < 2 ^ w
  pub width : width_of t r ≡ w
  pub value : (p : List ℕ) → value_of t p r ≡ binary w a
  pub number : (p : List ℕ) → bits_number (value_of t p r) ≡ a

-- The table of the one row 5 a b c.
abbrev pub one_value : ℕ → ℕ → ℕ → List ℕ
one_value a b c = 5 ∷ a ∷ b ∷ c ∷ []

-- It is accepted exactly if c is 0, b is 1 to 16 and b bits hold a. Else it is refused at its row: 13 if c is not 0; else 15 if b is 0 or
-- above 1,024; else 40.
pub record OneValue (a b c : ℕ) : Type 0 where
  pub accepted : Exactly (first_fault (one_value a b c) ≡ Accepted) ((c ≡ 0) × (1 ≤ b) × (b ≤ 16) × (a < 2 ^ b))
  pub told_13 : Exactly (Refused (one_value a b c) 13 0) (c ≡ 0 → ⊥)
  pub told_15 : Exactly (Refused (one_value a b c) 15 0) ((c ≡ 0) × ((b ≡ 0) ⊎ (1024 < b)))
  pub told_40 : Exactly (Refused (one_value a b c) 40 0) ((c ≡ 0) × (1 ≤ b) × (b ≤ 1024) × ((16 < b) ⊎ (2 ^ b ≤ a)))
