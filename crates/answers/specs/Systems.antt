-- Solved systems in general (document 01, "The solver's answer"): cut by the solver's rules or not, with any labels for the fresh
-- pieces.
use Rattle.std.specs.Prelude.{◌≡◌, Bool, true, List, [], ◌∷◌, ◌++◌, map, ℕ, zero, suc, ◌+◌, ◌≤◌, replicate}
use Rattle.terms.specs.Assignments.{Assignment}
use Rattle.laws.specs.Lists.{distinct}

-- A part of a right side: a fill, or a whole fresh piece.
pub data Part : Type 0 where
  fill : (bit width : ℕ) → Part
  fresh : (label width : ℕ) → Part

abbrev pub part_width : Part → ℕ
part_width (fill bit width) = width
part_width (fresh label width) = width

unfoldable pub side_width : List Part → ℕ
side_width [] = 0
side_width (x ∷ side) = part_width x + side_width side

-- What is asked of a part, where `wide` has the width of each fresh piece.
abbrev pub FinePart : (ℕ → ℕ) → Part → Type 0
FinePart wide (fill bit width) = (bit ≤ 1) × (1 ≤ width)
FinePart wide (fresh label width) = (1 ≤ width) × (width ≡ wide label)

abbrev pub FineSide : (ℕ → ℕ) → List Part → Type 0
FineSide wide [] = Unit {0}
FineSide wide (x ∷ side) = FinePart wide x × FineSide wide side

abbrev pub FineSides : (ℕ → ℕ) → List (List Part) → Type 0
FineSides wide [] = Unit {0}
FineSides wide (side ∷ sides) = FineSide wide side × FineSides wide sides

-- A solved system for variables of these widths: each has a right side as wide as it, of fills and whole fresh pieces; widths are at
-- least 1, and a fresh piece has one width wherever it stands.
pub record SolvedSystem (ws : List ℕ) (sides : List (List Part)) : Type 0 where
  pub wide : ℕ → ℕ
  pub parts_fine : FineSides wide sides
  pub widths_are : map side_width sides ≡ ws

-- The labels that are used, and how many there are: the fresh pieces.
unfoldable pub labels_of : List Part → List ℕ
labels_of [] = []
labels_of (fill bit width ∷ side) = labels_of side
labels_of (fresh label width ∷ side) = label ∷ labels_of side

unfoldable pub all_labels : List (List Part) → List ℕ
all_labels [] = []
all_labels (side ∷ sides) = labels_of side ++ all_labels sides

unfoldable pub fresh_count : List (List Part) → ℕ
fresh_count sides = distinct (all_labels sides)

-- The assignment of a filling, which has one bit for each label and each place in its piece, high end first.
unfoldable pub piece_bits : (ℕ → ℕ) → ℕ → ℕ → List ℕ
piece_bits bits from zero = []
piece_bits bits from (suc width) = bits from ∷ piece_bits bits (suc from) width

abbrev pub part_bits : (ℕ → ℕ → ℕ) → Part → List ℕ
part_bits filling (fill bit width) = replicate width bit
part_bits filling (fresh label width) = piece_bits (filling label) 0 width

unfoldable pub side_bits : (ℕ → ℕ → ℕ) → List Part → List ℕ
side_bits filling [] = []
side_bits filling (x ∷ side) = part_bits filling x ++ side_bits filling side

unfoldable pub system_bits : (ℕ → ℕ → ℕ) → List (List Part) → List ℕ
system_bits filling [] = []
system_bits filling (side ∷ sides) = side_bits filling side ++ system_bits filling sides

abbrev pub Filling : (ℕ → ℕ → ℕ) → Type 0
Filling filling = (label place : ℕ) → filling label place ≤ 1

-- The patterns of a system are those of n bits that pass a test: every filling gives one that does, and each that does is given.
pub record Gives (n : ℕ) (test : List ℕ → Bool) (sides : List (List Part)) : Type 0 where
  pub passes : (filling : ℕ → ℕ → ℕ) → Filling filling → test (system_bits filling sides) ≡ true
  pub reaches : (p : List ℕ) → Assignment n p → test p ≡ true → (filling : ℕ → ℕ → ℕ) × Filling filling × (system_bits filling sides ≡ p)
