-- Numbers as bits, and bits as numbers. The bits of a number stand high bit first.
use Rattle.std.specs.Prelude.{◌≡◌, true, List, [], ◌∷◌, ◌++◌, ℕ, zero, suc, ◌+◌, ◌*◌, ◌/◌, ◌%◌, ◌^◌, ◌<◌, length}
use Rattle.laws.specs.Lists.{all_bits}

-- The w bits of a number, high bit first: 6 in 4 bits is 0110.
unfoldable pub binary : ℕ → ℕ → List ℕ
binary zero a = []
binary (suc w) a = binary w (a / 2) ++ (a % 2 ∷ [])

-- The number of bits, high bit first: each counts 2 to the number of bits behind it.
unfoldable pub bits_number : List ℕ → ℕ
bits_number [] = 0
bits_number (b ∷ bits) = b * 2 ^ length bits + bits_number bits

-- What the theorems say (proofs/Binary.antt). A number that w bits hold: it is written in w bits, each 0 or 1, whose number it is.
pub record Written (w a : ℕ) : Type 0 where
  pub wide : length (binary w a) ≡ w
  pub bits : all_bits (binary w a) ≡ true
  pub number : bits_number (binary w a) ≡ a

-- And of bits: their number is one that so many bits hold, and they are its bits.
pub record Read (bits : List ℕ) : Type 0 where
  pub fits : bits_number bits < 2 ^ length bits
  pub again : binary (length bits) (bits_number bits) ≡ bits
