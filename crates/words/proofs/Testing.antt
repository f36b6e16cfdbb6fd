-- The tests of a plan's rows, as they are made of a window, and many tests one after the other.
use mathlib.Core.Path.{◌≡◌, refl, sym, ◌∙◌, ap}
use mathlib.Core.Bool.{Bool, true, false, ◌&&◌}
use mathlib.Core.List.{List}
use Prim.Native.Nat.{ℕ, ◌+◌, ◌*◌, ◌%◌, ◌^◌, ◌≤◌, ◌<◌, min}
use native.Mathlib.Omega.{arith}
use native.Mathlib.Numerals.{add-one}
use native.Mathlib.Nat.{mod-eq_of_lt, mul-le-mul}
use lib.Bits.{bit_and, bit_xor}
use lib.Dec.{eqb}
use lib.ListN.{length, get_or}
use lib.Pow.{pow_mono}
use borrow.Author.Tests.{le-leb, lt-leb}
use Rattle.laws.specs.Lists.{below}
use Rattle.laws.proofs.Bools.{and_both}
use Rattle.laws.proofs.Tallies.{below_fails}
use Rattle.groups.specs.inner.Places.{equal_test}
use Rattle.words.specs.inner.Plan.{fixed_test, meets_plan}

-- no test, one test more, and one that fails
pub below_none : (f : ℕ → Bool) → below 0 f ≡ true
unfolding below
below_none f = refl

pub below_more : (n : ℕ) (f : ℕ → Bool) → below n f ≡ true → f n ≡ true → below (n + 1) f ≡ true
unfolding below
below_more n f h k = rw add-one (and_both (f n) (below n f) k h)

pub below-broken : (n : ℕ) (f : ℕ → Bool) (j : ℕ) → j < n → f j ≡ false → false ≡ below n f
below-broken n f j l h = sym (below_fails n f j l h)

pub below_end : (n : ℕ) (f : ℕ → Bool) (j : ℕ) → j ≤ n → n ≤ j → below j f ≡ true → true ≡ below n f
below_end n f j l m h = let e : j ≡ n = omega arith in sym (ap (λ (k : ℕ). below k f) (sym e) ∙ h)

-- a fixed row, as its numbers are read
pub fixed_read : (plan window : List ℕ) (j p x m v : ℕ) → p ≡ get_or plan (4 * j + 4) 0 → x ≡ get_or window p 0 → m ≡ get_or plan (4 * j + 4 + 1) 0 → v ≡ get_or plan (4 * j + 4 + 2) 0
    → fixed_test plan window j ≡ eqb (bit_and x m) v
unfolding fixed_test
fixed_read plan window j p x m v ep ex em ev =
    let a : 4 * j + 4 + 1 ≡ 4 * j + 5 = omega arith in
    let b : 4 * j + 4 + 2 ≡ 4 * j + 6 = omega arith in
    rw (em, ev, ex, ep, a, b)

-- a word shifted upwards by less than 16 stays within 64 bits
shifted : (y d : ℕ) → y ≤ 65535 → y * 2 ^ (d % 16) % 18446744073709551616 ≡ y * 2 ^ (d % 16)
shifted y d l = mod-eq_of_lt (omega (arith, mul-le-mul l (pow_mono {i = d % 16} {j = 15} (omega arith))))

pub equal_read : (plan window : List ℕ) (g p q x y d m : ℕ) → p ≡ get_or plan (4 * g + 260) 0 → x ≡ get_or window p 0 → q ≡ get_or plan (4 * g + 260 + 1) 0 → y ≡ get_or window q 0
    → y ≤ 65535 → d ≡ get_or plan (4 * g + 260 + 2) 0 → m ≡ get_or plan (4 * g + 260 + 3) 0
    → equal_test plan window g ≡ eqb (bit_and (bit_xor x (y * 2 ^ (d % 16) % 18446744073709551616)) m) 0
unfolding equal_test
equal_read plan window g p q x y d m ep ex eq ey l ed em =
    let a : 4 * g + 260 + 1 ≡ 4 * g + 261 = omega arith in
    let b : 4 * g + 260 + 2 ≡ 4 * g + 262 = omega arith in
    let c : 4 * g + 260 + 3 ≡ 4 * g + 263 = omega arith in
    rw (shifted y d l, em, ed, ey, ex, eq, ep, a, b, c)

-- a plan that is too short, and one that is not
module _ (plan window : List ℕ) where
  abbrev fixed : Bool
  fixed = below (min (get_or plan 0 0) 64) (fixed_test plan window)

  abbrev equal : Bool
  equal = below (min (get_or plan 1 0) 1023) (equal_test plan window)

  pub plan_short : length plan < 4352 → false ≡ meets_plan plan window
  unfolding meets_plan
  plan_short l = rw (lt-leb 4352 (length plan) l)

  module _ (h : 4352 ≤ length plan) where
    pub plan_met : meets_plan plan window ≡ fixed && equal
    unfolding meets_plan
    plan_met = rw (le-leb 4352 (length plan) h)

    pub plan_broken : fixed ≡ false → false ≡ meets_plan plan window
    plan_broken b = rw (plan_met, b)

    pub plan_passed : fixed ≡ true → (r : Bool) → r ≡ equal → r ≡ meets_plan plan window
    plan_passed b r q = rw (plan_met, b) q
