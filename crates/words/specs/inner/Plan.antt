-- A plan: what a window of words is tested against. Four numbers make a row; row 0 has how many fixed rows and how many equal rows
-- there are. Fixed rows stand from row 1 on (at most 64), equal rows from row 65 on (at most 1,023).
use Rattle.std.specs.Prelude.{◌≡◌, ◌⊎◌, Bool, true, false, not, ◌&&◌, List, ℕ, suc, ◌+◌, ◌*◌, ◌/◌, ◌%◌, ◌^◌, ◌-◌, ◌≤◌, ◌<◌, min, eqb, leb, length, get_or}
use Rattle.std.specs.Int.Bits.{bit_and}
use Rattle.terms.specs.Table.{rows_of, bits_of, count_kind, satisfies}
use Rattle.terms.specs.inner.Placed.{Placed}
use Rattle.laws.specs.Lists.{below}
use Rattle.laws.specs.Bools.{implies}
use Rattle.answers.specs.Answer.{variable_widths}
use Rattle.groups.specs.inner.Places.{equal_test, fixed_place, agrees_at}
use Rattle.groups.specs.inner.Counts.{linked, equal_rows}
use Rattle.windows.specs.Words.{words_bits, sixteens}
use Rattle.words.specs.inner.Sizes.{has_fixed, fixed_rows, Sized, fixed_rows_of, equal_rows_of}

-- A fixed row is x, mask, value, 0: the bits of word x that the mask has are the value.
unfoldable pub fixed_test : List ℕ → List ℕ → ℕ → Bool
fixed_test plan window j = eqb (bit_and (get_or window (get_or plan (4 * j + 4) 0) 0) (get_or plan (4 * j + 5) 0)) (get_or plan (4 * j + 6) 0)

-- A window meets a plan, which has room for all rows, if each row's test passes.
unfoldable pub meets_plan : List ℕ → List ℕ → Bool
meets_plan plan window =
    leb 4352 (length plan) && (below (min (get_or plan 0 0) 64) (fixed_test plan window) && below (min (get_or plan 1 0) 1023) (equal_test plan window))

-- What the links say of bit 15 - q of a word w, if it is word v of a window: where the place is fixed, it has that bit.
unfoldable pub fixed_bit : List ℕ → ℕ → ℕ → ℕ → Bool
fixed_bit links v w q = implies (fixed_place links (16 * v + q)) (eqb (w / 2 ^ (15 - q) % 2) (get_or links (suc (suc (16 * v + q))) 0))

-- A mask and a value that say it of all its bits; the mask has a bit exactly if the word has a fixed place.
pub record FixedBits (links : List ℕ) (v mask value : ℕ) : Type 0 where
  pub low : value ≤ mask
  pub some : has_fixed (linked links) v ≡ not (eqb mask 0)
  pub says : (w : ℕ) → eqb (bit_and w mask) value ≡ below 16 (fixed_bit links v w)

-- The row of variable v, if it has fixed bits, behind n rows.
pub record FixedRowPut (links : List ℕ) (v n : ℕ) (plan plan' : List ℕ) (m : ℕ) : Type 0 where
  pub tests : (window : List ℕ) → below m (fixed_test plan' window) ≡ below 16 (fixed_bit links v (get_or window v 0)) && below n (fixed_test plan window)
  pub others : (i : ℕ) → (i < 4) ⊎ (260 ≤ i) → get_or plan' i 0 ≡ get_or plan i 0

-- The fixed rows of k variables: one for each that has a fixed place, and they say of a window what the links say of its fixed places. What
-- else the plan has stays.
pub record FixedPut (links : List ℕ) (k : ℕ) (plan plan' : List ℕ) (count : ℕ) : Type 0 where
  pub few : count ≤ k
  pub rows : count ≡ fixed_rows (linked links) k
  pub tests : (window : List ℕ) → below count (fixed_test plan' window) ≡ below (16 * k) (λ i. implies (fixed_place links i) (agrees_at links window i))
  pub others : (i : ℕ) → (i < 4) ⊎ (260 ≤ i) → get_or plan' i 0 ≡ get_or plan i 0

abbrev pub PutsFixed : List ℕ → ℕ → List ℕ → List ℕ → ℕ → Type 0
PutsFixed links k plan plan' count = k ≤ 64 → 260 ≤ length plan → FixedPut links k plan plan' count

-- Both, with how many there are in row 0: a window meets the plan exactly if each of its places agrees. And a plan that no window meets.
pub record RowsPut (links : List ℕ) (k : ℕ) (plan : List ℕ) : Type 0 where
  pub meets : (window : List ℕ) → meets_plan plan window ≡ below (16 * k) (agrees_at links window)
  pub sized : Sized plan (fixed_rows (linked links) k) (equal_rows (linked links) k)

abbrev pub PutsRows : List ℕ → ℕ → List ℕ → List ℕ → Type 0
PutsRows links k plan plan' = k ≤ 64 → 4352 ≤ length plan → ((s : ℕ) → get_or links s 0 ≤ s) → RowsPut links k plan'

pub record NeverPut (plan : List ℕ) : Type 0 where
  pub meets : (window : List ℕ) → meets_plan plan window ≡ false
  pub sized : Sized plan 1 0

abbrev pub PutsNever : List ℕ → List ℕ → Type 0
PutsNever plan plan' = 4352 ≤ length plan → NeverPut plan'

-- A window meets the plan of a table exactly if its bits satisfy the table.
abbrev pub Tells : List ℕ → List ℕ → Type 0
Tells table plan =
    (window : List ℕ) → length window ≡ count_kind 0 (rows_of table) → meets_plan plan window ≡ satisfies (rows_of table) (words_bits window)

-- And it has as many rows as its words with fixed bits and its pairs of words with tied bits need.
abbrev pub Planned : List ℕ → List ℕ → Type 0
Planned table plan = Tells table plan × Sized plan (fixed_rows_of (rows_of table)) (equal_rows_of (rows_of table))

-- The plan of a table that was placed, of k variables that have 16 bits each, from a link for each source.
abbrev pub Plans : List ℕ → List ℕ → List ℕ → List ℕ → ℕ → List ℕ → List ℕ → Type 0
Plans table widths places links k plan plan' =
    Placed table widths places → length links ≡ suc (suc (bits_of (rows_of table))) → k ≡ count_kind 0 (rows_of table)
    → sixteens (variable_widths (rows_of table)) ≡ true → 4352 ≤ length plan → Planned table plan'

-- The same, from its variable bits.
abbrev pub Prepares : List ℕ → List ℕ → List ℕ → ℕ → List ℕ → List ℕ → Type 0
Prepares table widths places bits plan plan' =
    Placed table widths places → bits ≡ bits_of (rows_of table) → sixteens (variable_widths (rows_of table)) ≡ true → 4352 ≤ length plan → Planned table plan'
