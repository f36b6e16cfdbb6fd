-- Places of a window of 16-bit words (document 02, (ii)): their bits, whether each has the bit of its representative, and the equal rows
-- of a plan, which say so of the places that are not fixed. A plan is numbers, four to a row; its equal rows stand from row 65 on.
use Rattle.std.specs.Prelude.{◌≡◌, Bool, not, List, ℕ, zero, suc, ◌+◌, ◌-◌, ◌*◌, ◌/◌, ◌%◌, ◌^◌, ◌≤◌, ◌<◌, eqb, ltb, length, get_or}
use Rattle.std.specs.Int.Bits.{bit_and, bit_xor}
use Rattle.laws.specs.Lists.{below}
use Rattle.laws.specs.Bools.{implies}
use Rattle.groups.specs.inner.Counts.{linked, equal_rows}

-- The bit of a source in a window: 0 and 1 are the constants, i + 2 is place i, which is bit 15 - i % 16 of word i / 16.
unfoldable pub source_bit : List ℕ → ℕ → ℕ
source_bit window zero = 0
source_bit window (suc zero) = 1
source_bit window (suc (suc i)) = get_or window (i / 16) 0 / 2 ^ (15 - i % 16) % 2

-- Links have for each source its representative. Whether place i is fixed, and whether it has in a window the bit of its representative.
unfoldable pub fixed_place : List ℕ → ℕ → Bool
fixed_place links i = ltb (get_or links (suc (suc i)) 0) 2

unfoldable pub agrees_at : List ℕ → List ℕ → ℕ → Bool
agrees_at links window i = eqb (source_bit window (suc (suc i))) (source_bit window (get_or links (suc (suc i)) 0))

-- An equal row is x, y, shift, mask: at the bits that the mask has, word x and word y shifted upwards are the same.
unfoldable pub equal_test : List ℕ → List ℕ → ℕ → Bool
equal_test plan window g =
    eqb
    (bit_and
    (bit_xor (get_or window (get_or plan (4 * g + 260) 0) 0)
    (get_or window (get_or plan (4 * g + 261) 0) 0 * 2 ^ (get_or plan (4 * g + 262) 0 % 16)))
    (get_or plan (4 * g + 263) 0))
    0

-- The equal rows of k words: they say of a window what the links say of its places that are not fixed, and are one for each two words and
-- shift. What stands before them stays.
pub record EqualPut (links : List ℕ) (k : ℕ) (plan plan' : List ℕ) (count : ℕ) : Type 0 where
  pub few : count ≤ 1023
  pub rows : count ≡ equal_rows (linked links) k
  pub tests : (window : List ℕ) → below count (equal_test plan' window) ≡ below (16 * k) (λ i. implies (not (fixed_place links i)) (agrees_at links window i))
  pub others : (i : ℕ) → i < 260 → get_or plan' i 0 ≡ get_or plan i 0

abbrev pub PutsEqual : List ℕ → ℕ → List ℕ → List ℕ → ℕ → Type 0
PutsEqual links k plan plan' count =
    k ≤ 64 → 4352 ≤ length plan → ((s : ℕ) → get_or links s 0 ≤ s) → EqualPut links k plan plan' count
