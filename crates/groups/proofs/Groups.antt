-- Equal rows: the row of one place and its representative, a test added to the rows of a plan, and the places covered so far.
-- Assumes nothing.
use mathlib.Core.Path.{◌≡◌, refl, sym, ◌∙◌, ap, ap₂}
use mathlib.Core.Bool.{Bool, true, false, not, ◌&&◌, and_assoc}
use mathlib.Core.List.{List}
use mathlib.Core.Logic.{◌⊎◌, inl, inr, ◌≢◌}
use Prim.Native.Nat.{ℕ, zero, suc, ◌+◌, ◌-◌, ◌*◌, ◌/◌, ◌%◌, ◌^◌, ◌≤◌, ◌<◌}
use native.Mathlib.Omega.{arith}
use native.Mathlib.Numerals.{add-one}
use native.Mathlib.Nat.{mod-eq_of_lt}
use lib.Bits.{bit_or, bit_xor}
use lib.Dec.{eqb, leb}
use lib.ListN.{length, get_or, set}
use lib.Pow.{pow-lt}
use lib.Seq.{get_or-set_same, get_or-set_other}
use borrow.Author.Tests.{lt-ltb, le-ltb, le-leb, lt-leb, eq-eqb}
use Rattle.laws.specs.Buffers.{set_four}
use Rattle.laws.specs.Lists.{below, tally}
use Rattle.laws.proofs.Bools.{and_past, or_right, one_most}
use Rattle.laws.proofs.Numbers.{dec_eq, eqb_turn}
use Rattle.laws.specs.Bools.{implies}
use Rattle.groups.specs.inner.Places.{source_bit, equal_test, fixed_place, agrees_at, PutsEqual}
use Rattle.groups.specs.inner.Counts.{linked, equal_rows}
use Rattle.groups.specs.inner.Groups.{group_test, Groups, group_x, group_y, group_shift, GroupOf, same_key, is_row_of, no_row, Added, Covered, Covers, Counts}
use Rattle.groups.proofs.Keys.{Same, key_same, row_there}
use Rattle.groups.proofs.Masks.{and-or_none, equal_bit}
use Rattle.groups.proofs.Rows.{four_other, four_first, four_second, four_third, four_fourth, below_same, place_bit}

-- ---- the row of one place

-- place q of word x against place p of word y, which is not before it: y is shifted up
pub upwards : (window : List ℕ) (x y q p : ℕ) → q ≤ p → p < 16
    → group_test window x y (p - q) (2 ^ (15 - q)) ≡ eqb (get_or window x 0 / 2 ^ (15 - q) % 2) (get_or window y 0 / 2 ^ (15 - p) % 2)
unfolding group_test
upwards window x y q p h l =
    let d : (p - q) % 16 ≡ p - q = mod-eq_of_lt (omega arith) in
    let e : 15 - q - (p - q) ≡ 15 - p = omega arith in
    rw d (equal_bit (get_or window x 0) (get_or window y 0) (p - q) (15 - q) (omega arith)
    ∙ ap (λ (n : ℕ). eqb (get_or window x 0 / 2 ^ (15 - q) % 2) (get_or window y 0 / 2 ^ n % 2)) e)

-- the bit of a place, in 16 bits
pub bit-fits : (q : ℕ) → 1 * 2 ^ (15 - q) % 65536 ≡ 2 ^ (15 - q)
bit-fits q = mod-eq_of_lt (omega (arith, pow-lt {i = 15 - q} {j = 16} (omega arith))) ∙ omega arith

-- ---- tests below a bound

-- one of the tests was sharpened
below_sharper : (t : Bool) (g : ℕ) (f f' : ℕ → Bool) → f' g ≡ t && f g → ((i : ℕ) → i ≢ g → f' i ≡ f i) → (n : ℕ) → g < n
    → below n f' ≡ t && below n f
unfolding below
below_sharper t g f f' at others zero l = absurd (omega arith)
below_sharper t g f f' at others (suc n) l = go (dec_eq n g) (below_sharper t g f f' at others n)
  where
    go : (n ≡ g) ⊎ (n ≢ g) → (g < n → below n f' ≡ t && below n f) → f' n && below n f' ≡ t && (f n && below n f)
    go (inl e) r =
        ap₂ ◌&&◌ (ap f' e ∙ at ∙ ap (λ (m : ℕ). t && f m) (sym e)) (below_same n f' f (λ i k. others i (λ j. omega arith)))
        ∙ and_assoc t (f n) (below n f)
    go (inr e) r = ap₂ ◌&&◌ (others n e) (r (omega arith)) ∙ and_past (f n) t (below n f)

-- ---- the row of a place and its representative

module _ (i r x y shift mask : ℕ) (pair : 2 ≤ r) where
  place : (window : List ℕ) → source_bit window r ≡ get_or window ((r - 2) / 16) 0 / 2 ^ (15 - (r - 2) % 16) % 2
  place window = let e : suc (suc (r - 2)) ≡ r = omega arith in ap (source_bit window) (sym e) ∙ place_bit window (r - 2)

  -- the representative's word is shifted up
  pub group_up : i % 16 ≤ (r - 2) % 16 → x ≡ i / 16 → y ≡ (r - 2) / 16 → shift ≡ (r - 2) % 16 - i % 16 → mask ≡ 2 ^ (15 - i % 16)
      → GroupOf i r x y shift mask
  unfolding group_x group_y group_shift
  group_up h ex ey es em =
      let t = le-leb (i % 16) ((r - 2) % 16) h in
      record {
        tests = λ window.
            rw (ex, ey, es, em) (upwards window (i / 16) ((r - 2) / 16) (i % 16) ((r - 2) % 16) h (omega arith) ∙ sym (ap₂ eqb (place_bit window i) (place window)));
        x_is = rw t ex;
        y_is = rw t ey;
        shift_is = rw t es;
      }

  -- the place's word is
  pub group_down : (r - 2) % 16 < i % 16 → x ≡ (r - 2) / 16 → y ≡ i / 16 → shift ≡ i % 16 - (r - 2) % 16 → mask ≡ 2 ^ (15 - (r - 2) % 16)
      → GroupOf i r x y shift mask
  unfolding group_x group_y group_shift
  group_down h ex ey es em =
      let t = lt-leb (i % 16) ((r - 2) % 16) h in
      record {
        tests = λ window.
            rw (ex, ey, es, em)
            (upwards window ((r - 2) / 16) (i / 16) ((r - 2) % 16) (i % 16) (omega arith) (omega arith)
            ∙ sym (ap₂ eqb (place window) (place_bit window i)) ∙ eqb_turn (source_bit window r) (source_bit window (suc (suc i))));
        x_is = rw t ex;
        y_is = rw t ey;
        shift_is = rw t es;
      }

-- ---- a test added to the rows

-- what an equal row has, if it is one of words x and y at a shift
abbrev RowOf : List ℕ → ℕ → ℕ → ℕ → ℕ → Type 0
RowOf plan x y shift g = Same (get_or plan (4 * g + 260) 0) (get_or plan (4 * g + 261) 0) (get_or plan (4 * g + 262) 0) x y shift

row_has : (plan : List ℕ) (x y shift g : ℕ) → is_row_of plan x y shift g ≡ true → RowOf plan x y shift g
unfolding is_row_of
row_has plan x y shift g h = key_same (get_or plan (4 * g + 260) 0) (get_or plan (4 * g + 261) 0) (get_or plan (4 * g + 262) 0) x y shift h

equal_is : (plan window : List ℕ) (g : ℕ)
    → equal_test plan window g ≡ group_test window (get_or plan (4 * g + 260) 0) (get_or plan (4 * g + 261) 0) (get_or plan (4 * g + 262) 0) (get_or plan (4 * g + 263) 0)
unfolding equal_test group_test
equal_is plan window g = refl

-- a row's test is that of its four numbers
equal_by : (plan window : List ℕ) (g x y shift mask : ℕ) → RowOf plan x y shift g → get_or plan (4 * g + 263) 0 ≡ mask → equal_test plan window g ≡ group_test window x y shift mask
equal_by plan window g x y shift mask row m = equal_is plan window g ∙ rw (row.first, row.second, row.by, m)

equal_same : (plan plan' window : List ℕ) (g : ℕ) → get_or plan' (4 * g + 260) 0 ≡ get_or plan (4 * g + 260) 0 → get_or plan' (4 * g + 261) 0 ≡ get_or plan (4 * g + 261) 0
    → get_or plan' (4 * g + 262) 0 ≡ get_or plan (4 * g + 262) 0 → get_or plan' (4 * g + 263) 0 ≡ get_or plan (4 * g + 263) 0 → equal_test plan' window g ≡ equal_test plan window g
equal_same plan plan' window g a b c d = equal_is plan' window g ∙ rw (a, b, c, d) (sym (equal_is plan window g))

group-or : (window : List ℕ) (x y shift m b : ℕ) → group_test window x y shift (bit_or m b) ≡ group_test window x y shift m && group_test window x y shift b
unfolding group_test
group-or window x y shift m b = and-or_none (bit_xor (get_or window x 0) (get_or window y 0 * 2 ^ (shift % 16))) m b

-- rows whose words and shifts are the same
rows_same : (plan plan' : List ℕ) (from count x y shift : ℕ) → ((i j : ℕ) → i < count → j < 3 → get_or plan' (4 * i + (260 + j)) 0 ≡ get_or plan (4 * i + (260 + j)) 0)
    → no_row plan' from count x y shift ≡ no_row plan from count x y shift
unfolding no_row is_row_of
rows_same plan plan' from count x y shift h =
    below_same count (λ g. not (leb from g && is_row_of plan' x y shift g)) (λ g. not (leb from g && is_row_of plan x y shift g))
    (λ g l. rw (h g 0 l (omega arith), h g 1 l (omega arith), h g 2 l (omega arith)))

one_more_row : (plan plan' : List ℕ) (from count x y shift : ℕ) → from ≤ count → RowOf plan' x y shift count
    → ((i j : ℕ) → i < count → j < 3 → get_or plan' (4 * i + (260 + j)) 0 ≡ get_or plan (4 * i + (260 + j)) 0) → (a b c : ℕ)
    → no_row plan' from (count + 1) a b c ≡ not (same_key x y shift a b c) && no_row plan from count a b c
unfolding no_row is_row_of below
one_more_row plan plan' from count x y shift k row h a b c =
    rw (add-one, le-leb from count k, row.first, row.second, row.by)
    (ap (λ (t : Bool). not (same_key x y shift a b c) && t) (rows_same plan plan' from count a b c h))

module _ (x y shift mask : ℕ) (plan : List ℕ) (from count : ℕ) (plan' : List ℕ) where
  -- to a row that is there: its mask has the new bit too
  module _ (g at : ℕ) (there : is_row_of plan x y shift g ≡ true) (past : from ≤ g) (low : g < count) (place : at ≡ 4 * g + 263) (room : at < length plan)
      (stored : plan' ≡ set plan at (bit_or mask (get_or plan at 0))) where
    row : RowOf plan x y shift g
    row = row_has plan x y shift g there

    no_other : no_row plan from count x y shift ≡ false
    no_other = row_there plan x y shift from count g past low there

    kept : (i : ℕ) → i ≢ 4 * g + 263 → get_or plan' i 0 ≡ get_or plan i 0
    kept i h = ap (λ (p : List ℕ). get_or p i 0) stored ∙ get_or-set_other plan at i (bit_or mask (get_or plan at 0)) 0 (λ e. h (omega arith))

    pub added_there : Added x y shift mask plan from count plan' count
    added_there =
        record {
          counted = rw no_other (omega arith);
          rows = λ k a b c.
              rows_same plan plan' from count a b c (λ i j l m. kept (4 * i + (260 + j)) (λ e. omega arith))
              ∙ same a b c (same_key x y shift a b c) refl;
          tests = λ window. below_sharper (group_test window x y shift mask) g (equal_test plan window) (equal_test plan' window) (sharper window) (other window) count low;
          others = λ i h. kept i (λ e. omega arith);
        }
      where
        same : (a b c : ℕ) (t : Bool) → same_key x y shift a b c ≡ t → no_row plan from count a b c ≡ not t && no_row plan from count a b c
        same a b c false e = refl
        same a b c true e =
            let s = key_same x y shift a b c e in
            rw (← s.first, ← s.second, ← s.by) no_other

        row' : RowOf plan' x y shift g
        row' =
            record {
              first = kept (4 * g + 260) (λ e. omega arith) ∙ row.first;
              second = kept (4 * g + 261) (λ e. omega arith) ∙ row.second;
              by = kept (4 * g + 262) (λ e. omega arith) ∙ row.by;
            }

        sharper : (window : List ℕ) → equal_test plan' window g ≡ group_test window x y shift mask && equal_test plan window g
        sharper window =
            let old = get_or plan (4 * g + 263) 0 in
            let new : get_or plan' (4 * g + 263) 0 ≡ bit_or mask old = rw (← place) (ap (λ (p : List ℕ). get_or p at 0) stored ∙ get_or-set_same plan at (bit_or mask (get_or plan at 0)) 0 room) in
            equal_by plan' window g x y shift (bit_or mask old) row' new
            ∙ group-or window x y shift mask old
            ∙ ap (λ (t : Bool). group_test window x y shift mask && t) (sym (equal_by plan window g x y shift old row refl))

        other : (window : List ℕ) (i : ℕ) → i ≢ g → equal_test plan' window i ≡ equal_test plan window i
        other window i h =
            equal_same plan plan' window i (kept (4 * i + 260) (λ e. omega arith)) (kept (4 * i + 261) (λ e. omega arith)) (kept (4 * i + 262) (λ e. omega arith)) (kept (4 * i + 263) (λ e. omega arith))

  -- in one row more
  module _ (at : ℕ) (none : no_row plan from count x y shift ≡ true) (place : at ≡ 4 * count + 260) (room : at + 3 < length plan)
      (stored : plan' ≡ set_four plan at x y shift mask) where
    read : (i v : ℕ) → get_or (set_four plan (4 * count + 260) x y shift mask) i 0 ≡ v → get_or plan' i 0 ≡ v
    read i v e = ap (λ (p : List ℕ). get_or p i 0) stored ∙ ap (λ (n : ℕ). get_or (set_four plan n x y shift mask) i 0) place ∙ e

    pub added_new : Added x y shift mask plan from count plan' (count + 1)
    unfolding below
    added_new =
        record {
          counted = rw none;
          rows = λ k. one_more_row plan plan' from count x y shift k row (λ i j l m. before i j l (omega arith));
          tests = tests;
          others = λ i h. read i (get_or plan i 0) (four_other plan (4 * count + 260) x y shift mask i (inl (omega arith)));
        }
      where
        row : RowOf plan' x y shift count
        row =
            let e : 4 * count + 261 ≡ 4 * count + 260 + 1 = omega arith in
            let f : 4 * count + 262 ≡ 4 * count + 260 + 2 = omega arith in
            record {
              first = read (4 * count + 260) x (four_first plan (4 * count + 260) x y shift mask (omega arith));
              second = rw e (read (4 * count + 260 + 1) y (four_second plan (4 * count + 260) x y shift mask (omega arith)));
              by = rw f (read (4 * count + 260 + 2) shift (four_third plan (4 * count + 260) x y shift mask (omega arith)));
            }

        last : get_or plan' (4 * count + 263) 0 ≡ mask
        last =
            let e : 4 * count + 263 ≡ 4 * count + 260 + 3 = omega arith in
            rw e (read (4 * count + 260 + 3) mask (four_fourth plan (4 * count + 260) x y shift mask (omega arith)))

        before : (i j : ℕ) → i < count → j < 4 → get_or plan' (4 * i + (260 + j)) 0 ≡ get_or plan (4 * i + (260 + j)) 0
        before i j h l = read (4 * i + (260 + j)) (get_or plan (4 * i + (260 + j)) 0) (four_other plan (4 * count + 260) x y shift mask (4 * i + (260 + j)) (inl (omega arith)))

        tests : (window : List ℕ) → below (count + 1) (equal_test plan' window) ≡ group_test window x y shift mask && below count (equal_test plan window)
        tests window =
            rw add-one
            (ap₂ ◌&&◌ (equal_by plan' window count x y shift mask row last)
            (below_same count (equal_test plan' window) (equal_test plan window)
            (λ i h. equal_same plan plan' window i (before i 0 h (omega arith)) (before i 1 h (omega arith)) (before i 2 h (omega arith)) (before i 3 h (omega arith)))))

-- one row more at the most
pub added_few : (x y shift mask : ℕ) (plan : List ℕ) (from count : ℕ) (plan' : List ℕ) (count' : ℕ) → Added x y shift mask plan from count plan' count'
    → count' ≤ count + 1
added_few x y shift mask plan from count plan' count' more = omega (arith, more.counted, one_most (no_row plan from count x y shift))

-- ---- places covered

-- the link of a place, as it is read
pub link_read : (links : List ℕ) (r i w : ℕ) → w ≡ i → r ≡ get_or links (w + 2) 0 → r ≡ get_or links (suc (suc i)) 0
link_read links r i w e h = let f : w + 2 ≡ suc (suc i) = omega arith in h ∙ ap (λ (n : ℕ). get_or links n 0) f

abbrev need : List ℕ → List ℕ → ℕ → Bool
need links window i = implies (not (fixed_place links i)) (agrees_at links window i)

module _ (links : List ℕ) (i : ℕ) (plan : List ℕ) (count : ℕ) where
  -- a place that needs no test
  covers_same : (base : List ℕ) → ((window : List ℕ) → need links window i ≡ true) → Covered links base i plan count → Covered links base (i + 1) plan count
  unfolding below
  covers_same base h k = record { tests = λ window. k.tests window ∙ rw (add-one, h window); others = k.others }

  module _ (r : ℕ) (e : r ≡ get_or links (suc (suc i)) 0) where
    -- a fixed place, and one that is its own representative
    pub covers_fixed : r < 2 → Covers links i (i + 1) plan count plan count
    unfolding fixed_place
    covers_fixed h low base k = covers_same base (λ window. rw (← e, lt-ltb r 2 h)) k

    pub covers_own : i + 2 ≤ r → Covers links i (i + 1) plan count plan count
    unfolding agrees_at
    covers_own h low base k =
        let own : get_or links (suc (suc i)) 0 ≡ suc (suc i) = omega (arith, low (suc (suc i))) in
        covers_same base
        (λ window. rw (own, eq-eqb (source_bit window (suc (suc i))) (source_bit window (suc (suc i))) refl) (or_right (not (not (fixed_place links i))) true refl)) k

    -- any other has the test of its group
    pub covers_more : (x y shift mask from : ℕ) (plan' : List ℕ) (count' : ℕ) → 2 ≤ r → Groups i r x y shift mask → Added x y shift mask plan from count plan' count'
        → Covers links i (i + 1) plan count plan' count'
    unfolding fixed_place agrees_at below
    covers_more x y shift mask from plan' count' h group more low base k =
        record {
          tests = λ window. more.tests window ∙ rw add-one (ap₂ ◌&&◌ (sym (one window)) (k.tests window));
          others = λ j l. more.others j l ∙ k.others j l;
        }
      where
        one : (window : List ℕ) → need links window i ≡ group_test window x y shift mask
        one window = rw (← e, le-ltb r 2 h) (sym (group window))

-- all of them
pub covers_all : (links : List ℕ) (k : ℕ) (plan plan' : List ℕ) (count : ℕ) → count ≤ 16 * k - 1 → Covers links 0 (16 * k) plan 0 plan' count
    → Counts (linked links) 0 (16 * k) 0 count → PutsEqual links k plan plan' count
unfolding below tally equal_rows
covers_all links k plan plan' count few h counts small long low =
    let all = h low plan (record { tests = λ window. refl; others = λ i j. refl }) in
    record { few = omega arith; rows = counts refl; tests = all.tests; others = all.others }
