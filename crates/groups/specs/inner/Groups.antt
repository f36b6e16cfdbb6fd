-- How the equal rows of a plan are made: place by place, each to the row of its two words and their shift.
use Rattle.std.specs.Prelude.{◌≡◌, Bool, not, ◌&&◌, cond, List, Option, Some, None, ℕ, zero, suc, ◌+◌, ◌-◌, ◌*◌, ◌/◌, ◌%◌, ◌^◌, ◌≤◌, ◌<◌, eqb, leb, get_or}
use Rattle.std.specs.Int.Bits.{bit_and, bit_xor}
use Rattle.laws.specs.Lists.{below, tally}
use Rattle.laws.specs.Bools.{implies}
use Rattle.groups.specs.inner.Places.{source_bit, equal_test, fixed_place, agrees_at}
use Rattle.groups.specs.inner.Counts.{represented, stand_in, first_alike}

-- The test of an equal row x, y, shift, mask.
unfoldable pub group_test : List ℕ → ℕ → ℕ → ℕ → ℕ → Bool
group_test window x y shift mask = eqb (bit_and (bit_xor (get_or window x 0) (get_or window y 0 * 2 ^ (shift % 16))) mask) 0

-- It is the test of place i against source s: they have the same bit in a window.
abbrev pub Groups : ℕ → ℕ → ℕ → ℕ → ℕ → ℕ → Type 0
Groups i s x y shift mask =
    (window : List ℕ) → group_test window x y shift mask ≡ eqb (source_bit window (suc (suc i))) (source_bit window s)

-- The words and the shift of places i and j: turned so that the shift is upwards.
unfoldable pub group_x : ℕ → ℕ → ℕ
group_x i j = cond (leb (i % 16) (j % 16)) (i / 16) (j / 16)

unfoldable pub group_y : ℕ → ℕ → ℕ
group_y i j = cond (leb (i % 16) (j % 16)) (j / 16) (i / 16)

unfoldable pub group_shift : ℕ → ℕ → ℕ
group_shift i j = cond (leb (i % 16) (j % 16)) (j % 16 - i % 16) (i % 16 - j % 16)

-- The equal row of place i and source s: its test, its words and its shift.
pub record GroupOf (i s x y shift mask : ℕ) : Type 0 where
  pub tests : Groups i s x y shift mask
  pub x_is : x ≡ group_x i (s - 2)
  pub y_is : y ≡ group_y i (s - 2)
  pub shift_is : shift ≡ group_shift i (s - 2)

-- Whether two words and a shift are two other words and another shift.
unfoldable pub same_key : ℕ → ℕ → ℕ → ℕ → ℕ → ℕ → Bool
same_key a b c x y shift = eqb a x && (eqb b y && eqb c shift)

-- Whether equal row g is one of words x and y at a shift.
unfoldable pub is_row_of : List ℕ → ℕ → ℕ → ℕ → ℕ → Bool
is_row_of plan x y shift g = same_key (get_or plan (4 * g + 260) 0) (get_or plan (4 * g + 261) 0) (get_or plan (4 * g + 262) 0) x y shift

-- The last of the rows from .. n that is one.
unfoldable pub last_row : List ℕ → ℕ → ℕ → ℕ → ℕ → ℕ → Option ℕ
last_row plan x y shift from zero = None
last_row plan x y shift from (suc g) = cond (leb from g && is_row_of plan x y shift g) (Some g) (last_row plan x y shift from g)

-- Whether there is none of the rows from .. count.
unfoldable pub no_row : List ℕ → ℕ → ℕ → ℕ → ℕ → ℕ → Bool
no_row plan from count x y shift = below count (λ g. not (leb from g && is_row_of plan x y shift g))

-- A test was added to count equal rows, of which those from `from` on were looked through: to the row of its words and its shift, or in
-- one row more exactly if there is none.
pub record Added (x y shift mask : ℕ) (plan : List ℕ) (from count : ℕ) (plan' : List ℕ) (count' : ℕ) : Type 0 where
  pub counted : count' ≡ count + cond (no_row plan from count x y shift) 1 0
  pub rows : from ≤ count → (a b c : ℕ) → no_row plan' from count' a b c ≡ not (same_key x y shift a b c) && no_row plan from count a b c
  pub tests : (window : List ℕ) → below count' (equal_test plan' window) ≡ group_test window x y shift mask && below count (equal_test plan window)
  pub others : (i : ℕ) → i < 260 → get_or plan' i 0 ≡ get_or plan i 0

-- The equal rows of the first n places.
pub record Covered (links : List ℕ) (base : List ℕ) (n : ℕ) (plan : List ℕ) (count : ℕ) : Type 0 where
  pub tests : (window : List ℕ) → below count (equal_test plan window) ≡ below n (λ i. implies (not (fixed_place links i)) (agrees_at links window i))
  pub others : (i : ℕ) → i < 260 → get_or plan i 0 ≡ get_or base i 0

-- Those of the places from n to m were put behind those before, where no link points up.
abbrev pub Covers : List ℕ → ℕ → ℕ → List ℕ → ℕ → List ℕ → ℕ → Type 0
Covers links n m plan count plan' count' =
    ((s : ℕ) → get_or links s 0 ≤ s) → (base : List ℕ) → Covered links base n plan count → Covered links base m plan' count'

-- Whether no place of word v before place n has these words and this shift.
unfoldable pub no_place : (ℕ → ℕ) → ℕ → ℕ → ℕ → ℕ → ℕ → Bool
no_place r v n x y shift =
    below n (λ i.
    not (eqb (i / 16) v && (represented r i && same_key (group_x i (stand_in r i)) (group_y i (stand_in r i)) (group_shift i (stand_in r i)) x y shift)))

-- The rows from .. count are those of the places of word v before place n.
pub record WordRows (r : ℕ → ℕ) (v n : ℕ) (plan : List ℕ) (from count : ℕ) : Type 0 where
  pub behind : from ≤ count
  pub keys : (x y shift : ℕ) → no_row plan from count x y shift ≡ no_place r v n x y shift

-- Place i of the word was put: it is one row more exactly if no place before it stands alike.
pub record PlacePut (r : ℕ → ℕ) (i : ℕ) (plan : List ℕ) (from count : ℕ) (plan' : List ℕ) (count' : ℕ) : Type 0 where
  pub rows : WordRows r (i / 16) (i + 1) plan' from count'
  pub counted : count' ≡ count + cond (first_alike r i) 1 0

abbrev pub PutsPlace : (ℕ → ℕ) → ℕ → List ℕ → ℕ → ℕ → List ℕ → ℕ → Type 0
PutsPlace r i plan from count plan' count' = WordRows r (i / 16) i plan from count → PlacePut r i plan from count plan' count'

-- The rows of the places from n to m were counted.
abbrev pub Counts : (ℕ → ℕ) → ℕ → ℕ → ℕ → ℕ → Type 0
Counts r n m count count' = count ≡ tally n (first_alike r) → count' ≡ tally m (first_alike r)
