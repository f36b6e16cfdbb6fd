-- Equal rows by their words and their shift: rows that were compared, the last that is looked for, and places that stand alike.
-- Assumes nothing.
use mathlib.Core.Path.{◌≡◌, refl, sym, ◌∙◌, ap, ap₂}
use mathlib.Core.Bool.{Bool, true, false, not, ◌&&◌, cond, and-false, and-true}
use mathlib.Core.List.{List}
use Rattle.std.specs.Prelude.{Some, None}
use mathlib.Core.Logic.{◌≢◌}
use Prim.Native.Nat.{ℕ, zero, suc, ◌+◌, ◌-◌, ◌*◌, ◌/◌, ◌%◌, ◌≤◌, ◌<◌}
use native.Mathlib.Omega.{arith}
use lib.Dec.{eqb, leb, ltb}
use lib.ListN.{get_or}
use borrow.Author.Tests.{eqb-true, eq-eqb, ne_eqb, leb-true, leb-false, ltb-true, le-leb, lt-leb}
use Rattle.laws.specs.Lists.{below}
use Rattle.laws.proofs.Bools.{and_first, and_second, and_both, same_test}
use Rattle.laws.proofs.Numbers.{eqb_turn}
use Rattle.laws.proofs.Tallies.{below_fails}
use Rattle.groups.specs.inner.Counts.{represented, stand_in, alike}
use Rattle.groups.specs.inner.Groups.{group_x, group_y, group_shift, same_key, is_row_of, last_row, no_row, no_place}
use Rattle.groups.proofs.Rows.{below_same}

-- ---- words and shifts compared

-- three numbers that are the same
pub record Same (a b c x y shift : ℕ) : Type 0 where
  pub first : a ≡ x
  pub second : b ≡ y
  pub by : c ≡ shift

pub key_same : (a b c x y shift : ℕ) → same_key a b c x y shift ≡ true → Same a b c x y shift
unfolding same_key
key_same a b c x y shift h =
    let t = and_second (eqb a x) (eqb b y && eqb c shift) h in
    record {
      first = eqb-true a x (and_first (eqb a x) (eqb b y && eqb c shift) h);
      second = eqb-true b y (and_first (eqb b y) (eqb c shift) t);
      by = eqb-true c shift (and_second (eqb b y) (eqb c shift) t);
    }

pub same-key : (a b c x y shift : ℕ) → Same a b c x y shift → same_key a b c x y shift ≡ true
unfolding same_key
same-key a b c x y shift s =
    and_both (eqb a x) (eqb b y && eqb c shift) (eq-eqb a x s.first) (and_both (eqb b y) (eqb c shift) (eq-eqb b y s.second) (eq-eqb c shift s.by))

-- ---- one row compared

module _ (plan : List ℕ) (x y shift g w : ℕ) (e : w ≡ g) where
  row_test : is_row_of plan x y shift g ≡ same_key (get_or plan (4 * w + 260) 0) (get_or plan (4 * w + 260 + 1) 0) (get_or plan (4 * w + 260 + 2) 0) x y shift
  unfolding is_row_of
  row_test =
      let f : 4 * g + 260 ≡ 4 * w + 260 = omega arith in
      let h : 4 * g + 261 ≡ 4 * w + 260 + 1 = omega arith in
      let k : 4 * g + 262 ≡ 4 * w + 260 + 2 = omega arith in
      rw (f, h, k)

  -- the shift differs, the second word does, and the first word tells
  pub other_shift : get_or plan (4 * w + 260 + 2) 0 ≢ shift → false ≡ is_row_of plan x y shift g
  unfolding same_key
  other_shift d =
      sym (row_test ∙ rw (ne_eqb (get_or plan (4 * w + 260 + 2) 0) shift d, and-false (eqb (get_or plan (4 * w + 260 + 1) 0) y), and-false (eqb (get_or plan (4 * w + 260) 0) x)))

  pub other_second : get_or plan (4 * w + 260 + 1) 0 ≢ y → false ≡ is_row_of plan x y shift g
  unfolding same_key
  other_second d = sym (row_test ∙ rw (ne_eqb (get_or plan (4 * w + 260 + 1) 0) y d, and-false (eqb (get_or plan (4 * w + 260) 0) x)))

  pub first_tells : get_or plan (4 * w + 260 + 1) 0 ≡ y → get_or plan (4 * w + 260 + 2) 0 ≡ shift → eqb (get_or plan (4 * w + 260) 0) x ≡ is_row_of plan x y shift g
  unfolding same_key
  first_tells b c =
      sym
      (row_test
      ∙ rw (eq-eqb (get_or plan (4 * w + 260 + 1) 0) y b, eq-eqb (get_or plan (4 * w + 260 + 2) 0) shift c) (and-true (eqb (get_or plan (4 * w + 260) 0) x)))

-- ---- the last row

module _ (plan : List ℕ) (x y shift from : ℕ) where
  abbrev one : ℕ → Bool
  one g = leb from g && is_row_of plan x y shift g

  -- a step down, and nothing below `from`
  step : (g : ℕ) → last_row plan x y shift from (suc g) ≡ cond (one g) (Some g) (last_row plan x y shift from g)
  unfolding last_row
  step g = refl

  pub last_here : (g : ℕ) → from < g → true ≡ is_row_of plan x y shift (g - 1) → Some (g - 1) ≡ last_row plan x y shift from g
  last_here g l h =
      let e : suc (g - 1) ≡ g = omega arith in
      sym (ap (last_row plan x y shift from) (sym e) ∙ step (g - 1) ∙ rw (le-leb from (g - 1) (omega arith), ← h))

  pub last_below : (g : ℕ) → from < g → false ≡ is_row_of plan x y shift (g - 1) → last_row plan x y shift from g ≡ last_row plan x y shift from (g - 1)
  last_below g l h =
      let e : suc (g - 1) ≡ g = omega arith in
      ap (last_row plan x y shift from) (sym e) ∙ step (g - 1) ∙ rw (← h, and-false (leb from (g - 1)))

  pub last_none : (g : ℕ) → g ≤ from → last_row plan x y shift from g ≡ None
  unfolding last_row
  last_none zero l = refl
  last_none (suc g) l = rw (lt-leb from g (omega arith)) (last_none g (omega arith))

  -- what is found below n: a row, or that there is none
  pub record Found (n g : ℕ) : Type 0 where
    pub low : g < n
    pub past : from ≤ g
    pub row : is_row_of plan x y shift g ≡ true

  pub found_row : (n g : ℕ) → Some g ≡ last_row plan x y shift from n → Found n g
  unfolding last_row
  found_row zero g e = cc
  found_row (suc m) g e = go (one m) refl (found_row m g)
    where
      go : (t : Bool) → one m ≡ t → (Some g ≡ last_row plan x y shift from m → Found m g) → Found (suc m) g
      go true h f =
          let i : g ≡ m = cc (e, h) in
          record {
            low = omega arith;
            past = omega (arith, i, leb-true from m (and_first (leb from m) (is_row_of plan x y shift m) h));
            row = rw i (and_second (leb from m) (is_row_of plan x y shift m) h);
          }
      go false h f =
          let r = f (e ∙ rw h) in
          record { low = omega (arith, r.low); past = r.past; row = r.row }

  pub found_none : (n : ℕ) → None ≡ last_row plan x y shift from n → no_row plan from n x y shift ≡ true
  unfolding last_row no_row below
  found_none zero e = refl
  found_none (suc m) e = go (one m) refl (found_none m)
    where
      go : (t : Bool) → one m ≡ t → (None ≡ last_row plan x y shift from m → no_row plan from m x y shift ≡ true) → no_row plan from (suc m) x y shift ≡ true
      go true h f = cc (e, h)
      go false h f = rw h (f (e ∙ rw h))

-- a row that is there
pub row_there : (plan : List ℕ) (x y shift from count g : ℕ) → from ≤ g → g < count → is_row_of plan x y shift g ≡ true → no_row plan from count x y shift ≡ false
unfolding no_row
row_there plan x y shift from count g l m h =
    below_fails count (λ g. not (leb from g && is_row_of plan x y shift g)) g m (rw (le-leb from g l, h))

-- ---- places that stand alike

-- two tests of three numbers each that pass together
both_same : (a b c x y s a' b' c' x' y' s' : ℕ) → (Same a b c x y s → Same a' b' c' x' y' s') → (Same a' b' c' x' y' s' → Same a b c x y s)
    → same_key a b c x y s ≡ same_key a' b' c' x' y' s'
both_same a b c x y s a' b' c' x' y' s' f g =
    same_test (same_key a b c x y s) (same_key a' b' c' x' y' s')
    (λ h. same-key a' b' c' x' y' s' (f (key_same a b c x y s h)))
    (λ h. same-key a b c x y s (g (key_same a' b' c' x' y' s' h)))

-- places i and i' with lower places j and j': the same words and shift exactly if the words and the distance are the same
key_alike : (i j i' j' : ℕ) → j < i → j' < i'
    → same_key (group_x i' j') (group_y i' j') (group_shift i' j') (group_x i j) (group_y i j) (group_shift i j) ≡ same_key (i / 16) (j / 16) (i + j') (i' / 16) (j' / 16) (i' + j)
unfolding group_x group_y group_shift
key_alike i j i' j' l l' = go (leb (i % 16) (j % 16)) refl (leb (i' % 16) (j' % 16)) refl
  where
    go : (t : Bool) → leb (i % 16) (j % 16) ≡ t → (t' : Bool) → leb (i' % 16) (j' % 16) ≡ t'
        → same_key (cond t' (i' / 16) (j' / 16)) (cond t' (j' / 16) (i' / 16)) (cond t' (j' % 16 - i' % 16) (i' % 16 - j' % 16)) (cond t (i / 16) (j / 16))
        (cond t (j / 16) (i / 16)) (cond t (j % 16 - i % 16) (i % 16 - j % 16))
        ≡ same_key (i / 16) (j / 16) (i + j') (i' / 16) (j' / 16) (i' + j)
    go true e true e' =
        let m = leb-true (i % 16) (j % 16) e in
        let m' = leb-true (i' % 16) (j' % 16) e' in
        both_same (i' / 16) (j' / 16) (j' % 16 - i' % 16) (i / 16) (j / 16) (j % 16 - i % 16) (i / 16) (j / 16) (i + j') (i' / 16) (j' / 16) (i' + j)
        (λ s. record { first = omega arith; second = omega arith; by = omega arith })
        (λ s. record { first = omega arith; second = omega arith; by = omega arith })
    go true e false e' =
        let m = leb-true (i % 16) (j % 16) e in
        let m' = leb-false (i' % 16) (j' % 16) e' in
        both_same (j' / 16) (i' / 16) (i' % 16 - j' % 16) (i / 16) (j / 16) (j % 16 - i % 16) (i / 16) (j / 16) (i + j') (i' / 16) (j' / 16) (i' + j)
        (λ s. record { first = omega arith; second = omega arith; by = omega arith })
        (λ s. record { first = omega arith; second = omega arith; by = omega arith })
    go false e true e' =
        let m = leb-false (i % 16) (j % 16) e in
        let m' = leb-true (i' % 16) (j' % 16) e' in
        both_same (i' / 16) (j' / 16) (j' % 16 - i' % 16) (j / 16) (i / 16) (i % 16 - j % 16) (i / 16) (j / 16) (i + j') (i' / 16) (j' / 16) (i' + j)
        (λ s. record { first = omega arith; second = omega arith; by = omega arith })
        (λ s. record { first = omega arith; second = omega arith; by = omega arith })
    go false e false e' =
        let m = leb-false (i % 16) (j % 16) e in
        let m' = leb-false (i' % 16) (j' % 16) e' in
        both_same (j' / 16) (i' / 16) (i' % 16 - j' % 16) (j / 16) (i / 16) (i % 16 - j % 16) (i / 16) (j / 16) (i + j') (i' / 16) (j' / 16) (i' + j)
        (λ s. record { first = omega arith; second = omega arith; by = omega arith })
        (λ s. record { first = omega arith; second = omega arith; by = omega arith })

-- a place that a lower one stands for
pub lower_place : (r : ℕ → ℕ) (i : ℕ) → represented r i ≡ true → (2 ≤ r (suc (suc i))) × (stand_in r i < i)
unfolding represented
lower_place r i h =
    let a = leb-true 2 (r (suc (suc i))) (and_first (leb 2 (r (suc (suc i)))) (ltb (r (suc (suc i))) (suc (suc i))) h) in
    let b = ltb-true (r (suc (suc i))) (suc (suc i)) (and_second (leb 2 (r (suc (suc i)))) (ltb (r (suc (suc i))) (suc (suc i))) h) in
    (a, omega arith)

-- no place of its word before place i has its words and its shift exactly if none stands alike
pub none_alike : (r : ℕ → ℕ) (i : ℕ) → represented r i ≡ true
    → no_place r (i / 16) i (group_x i (stand_in r i)) (group_y i (stand_in r i)) (group_shift i (stand_in r i)) ≡ below i (λ i'. not (represented r i' && alike r i i'))
unfolding no_place alike same_key
none_alike r i h =
    below_same i
    (λ i'.
    not (eqb (i' / 16) (i / 16)
    && (represented r i'
    && same_key (group_x i' (stand_in r i')) (group_y i' (stand_in r i')) (group_shift i' (stand_in r i')) (group_x i (stand_in r i)) (group_y i (stand_in r i)) (group_shift i (stand_in r i)))))
    (λ i'. not (represented r i' && alike r i i'))
    (λ i' l. ap not (at i' (represented r i') refl))
  where
    twice : (a b : Bool) → a && (a && b) ≡ a && b
    twice true b = refl
    twice false b = refl

    at : (i' : ℕ) (t : Bool) → represented r i' ≡ t
        → eqb (i' / 16) (i / 16)
        && (t
        && same_key (group_x i' (stand_in r i')) (group_y i' (stand_in r i')) (group_shift i' (stand_in r i')) (group_x i (stand_in r i)) (group_y i (stand_in r i)) (group_shift i (stand_in r i)))
        ≡ t && alike r i i'
    at i' false e = and-false (eqb (i' / 16) (i / 16))
    at i' true e =
        ap₂ ◌&&◌ (eqb_turn (i' / 16) (i / 16)) (key_alike i (stand_in r i) i' (stand_in r i') (lower_place r i h).1 (lower_place r i' e).1)
        ∙ twice (eqb (i / 16) (i' / 16)) (eqb (stand_in r i / 16) (stand_in r i' / 16) && eqb (i + stand_in r i') (i' + stand_in r i))
