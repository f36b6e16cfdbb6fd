-- What the theorems say of equations whose narrower side is filled (document 02, (iii); proofs/Filled.antt, FilledSides.antt).
use Rattle.std.specs.Prelude.{◌≡◌, true, List, ◌⊎◌, ℕ, ◌+◌, ◌<◌, ◌≤◌, max, length, take, drop, replicate}
use Rattle.laws.specs.Binary.{bits_number}
use Rattle.terms.specs.declared.Row.{Row}
use Rattle.terms.specs.Table.{row_at, width_of, value_of, evened, satisfies}
use Rattle.terms.specs.Acceptance.{Exactly}
use Rattle.terms.specs.Sound.{IsFill, IsConcat, IsEquation}
use Rattle.terms.specs.Counting.{Counts}

-- Two words, each brought to the length of the other, are equal exactly if they are equal as binary numbers.
abbrev pub EqualNumbers : List ℕ → List ℕ → Type 0
EqualNumbers x y = Exactly (evened x y ≡ evened y x) (bits_number x ≡ bits_number y)

-- A word brought to the length of another has the greater length and the number that it had; one that is not shorter stays as it is.
pub record Evened (x y : List ℕ) : Type 0 where
  pub wide : length (evened x y) ≡ max (length x) (length y)
  pub number : bits_number (evened x y) ≡ bits_number x
  pub same : length y ≤ length x → evened x y ≡ x

-- An assignment satisfies a table exactly if in each equation that counts both sides are equal as binary numbers.
abbrev pub MeetsByNumbers : List Row → List ℕ → Type 0
MeetsByNumbers t p =
    Exactly (satisfies t p ≡ true)
    ((r : ℕ) → Counts t r → bits_number (value_of t p (row_at t r).a) ≡ bits_number (value_of t p (row_at t r).b))

-- Row r is the equation of rows a and b, in either order, and a is g bits wider.
pub record WiderBy (t : List Row) (r a b g : ℕ) : Type 0 where
  pub equation : IsEquation t r a b ⊎ IsEquation t r b a
  pub wider : width_of t a ≡ width_of t b + g

-- The top g bits of a word are 0, and the others are those of a narrower one.
pub record TopZero (g : ℕ) (word narrower : List ℕ) : Type 0 where
  pub top : take g word ≡ replicate g 0
  pub rest : drop g word ≡ narrower

-- Row n filled by hand to the width of row m: row f is a fill of g zeros, row j is its concatenation with n, and m is g bits wider than n.
pub record ByHand (t : List Row) (f n j m g : ℕ) : Type 0 where
  pub zeros : IsFill t f 0 g
  pub join : IsConcat t j f n
  pub in_table : m < length t
  pub wider : width_of t m ≡ width_of t n + g

-- The equation of rows a and b.
abbrev pub equation_of : ℕ → ℕ → Row
equation_of a b = record { kind = 4; a = a; b = b; c = 0 }
