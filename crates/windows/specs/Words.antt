-- Words of 16 bits as an assignment (document 02, (ii)): word j has the bits of variable j, high bit first.
use Rattle.std.specs.Prelude.{Bool, true, ◌&&◌, List, [], ◌∷◌, ◌++◌, ℕ, eqb}
use Rattle.laws.specs.Binary.{binary}

-- The bits of words, one word behind the other.
unfoldable pub words_bits : List ℕ → List ℕ
words_bits [] = []
words_bits (w ∷ ws) = binary 16 w ++ words_bits ws

-- Whether each width is 16.
unfoldable pub sixteens : List ℕ → Bool
sixteens [] = true
sixteens (w ∷ ws) = eqb w 16 && sixteens ws
