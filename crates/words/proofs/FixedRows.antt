-- Fixed bits as a mask and a value: one bit more behind those that are there. Assumes nothing.
use mathlib.Core.Path.{◌≡◌, refl, sym, ◌∙◌, ap, ap₂, subst}
use mir.Val.{bool_byte}
use mathlib.Core.Bool.{Bool, true, false, not, ◌&&◌, cond, and_assoc}
use mathlib.Core.List.{List}
use mathlib.Core.Logic.{◌⊎◌, inl, inr, ◌≢◌}
use Prim.Native.Nat.{ℕ, zero, suc, ◌+◌, ◌-◌, ◌*◌, ◌/◌, ◌%◌, ◌^◌, ◌≤◌, ◌<◌, min}
use native.Mathlib.Omega.{arith}
use native.Mathlib.Nat.{div-one}
use native.Mathlib.Numerals.{add-one}
use lib.Bits.{bit_and, and_step, and_zero_r}
use lib.Dec.{eqb, ltb}
use lib.ListN.{length, get_or}
use lib.Pow.{pow_mono}
use borrow.Author.Tests.{eqb-true, eq-eqb, ne_eqb, le-ltb}
use Rattle.laws.specs.Buffers.{set_four}
use Rattle.laws.specs.Lists.{below, tally}
use Rattle.laws.proofs.Binary.{bit_half}
use Rattle.laws.proofs.Bools.{same_test, and_first, and_second, and_both, one_most}
use Rattle.laws.specs.Bools.{implies}
use Rattle.groups.specs.inner.Places.{source_bit, fixed_place, agrees_at}
use Rattle.groups.specs.inner.Counts.{linked}
use Rattle.groups.proofs.Rows.{four_other, four_first, four_second, four_third, below_same, place_bit}
use Rattle.words.specs.inner.Sizes.{has_fixed, fixed_rows}
use Rattle.words.specs.inner.Plan.{fixed_test, fixed_bit, FixedBits, FixedRowPut, FixedPut}

-- a test as a number
pub byte_is : (b : Bool) → bool_byte b ≡ cond b 1 0
byte_is true = refl
byte_is false = refl

-- two numbers by their halves and their last bits
digits_same : (x y a b : ℕ) → a ≤ 1 → b ≤ 1 → eqb (x * 2 + a) (2 * y + b) ≡ eqb a b && eqb x y
digits_same x y a b l m =
    same_test (eqb (x * 2 + a) (2 * y + b)) (eqb a b && eqb x y)
    (λ h. let e = eqb-true (x * 2 + a) (2 * y + b) h in and_both (eqb a b) (eqb x y) (eq-eqb a b (omega arith)) (eq-eqb x y (omega arith)))
    (λ h. let e = eqb-true a b (and_first (eqb a b) (eqb x y) h) in
    let f = eqb-true x y (and_second (eqb a b) (eqb x y) h) in
    eq-eqb (x * 2 + a) (2 * y + b) (omega arith))

digits_none : (y b : ℕ) → eqb (2 * y + b) 0 ≡ eqb b 0 && eqb y 0
digits_none y b =
    same_test (eqb (2 * y + b) 0) (eqb b 0 && eqb y 0)
    (λ h. let e = eqb-true (2 * y + b) 0 h in and_both (eqb b 0) (eqb y 0) (eq-eqb b 0 (omega arith)) (eq-eqb y 0 (omega arith)))
    (λ h. let e = eqb-true b 0 (and_first (eqb b 0) (eqb y 0) h) in
    let f = eqb-true y 0 (and_second (eqb b 0) (eqb y 0) h) in
    eq-eqb (2 * y + b) 0 (omega arith))

-- what a link says of a bit: mask and value bits
link_says : (x link : ℕ) → x ≤ 1
    → eqb (min x (cond (eqb link 0) 1 0 + cond (eqb link 1) 1 0)) (cond (eqb link 1) 1 0) ≡ implies (ltb link 2) (eqb x link)
link_says zero zero l = refl
link_says zero (suc zero) l = refl
link_says zero (suc (suc k)) l = rw (le-ltb (suc (suc k)) 2 (omega arith), ne_eqb (suc (suc k)) 0 (λ z. omega arith), ne_eqb (suc (suc k)) 1 (λ z. omega arith))
link_says (suc zero) zero l = refl
link_says (suc zero) (suc zero) l = refl
link_says (suc zero) (suc (suc k)) l = rw (le-ltb (suc (suc k)) 2 (omega arith), ne_eqb (suc (suc k)) 0 (λ z. omega arith), ne_eqb (suc (suc k)) 1 (λ z. omega arith))
link_says (suc (suc x)) link l = absurd (omega arith)

-- no link is both
one_of : (link : ℕ) → cond {A = ℕ} (eqb link 0) 1 0 + cond {A = ℕ} (eqb link 1) 1 0 ≤ 1
one_of zero = omega arith
one_of (suc zero) = omega arith
one_of (suc (suc k)) = rw (ne_eqb (suc (suc k)) 0 (λ z. omega arith), ne_eqb (suc (suc k)) 1 (λ z. omega arith)) (omega arith)

-- a mask's bit is 1 exactly if its place is fixed
link_free : (link : ℕ) → eqb (cond {A = ℕ} (eqb link 0) 1 0 + cond {A = ℕ} (eqb link 1) 1 0) 0 ≡ not (ltb link 2)
link_free zero = refl
link_free (suc zero) = refl
link_free (suc (suc k)) = rw (le-ltb (suc (suc k)) 2 (omega arith), ne_eqb (suc (suc k)) 0 (λ z. omega arith), ne_eqb (suc (suc k)) 1 (λ z. omega arith))

-- the state after q bits: the mask and the value say of a word's q high bits what the links do, and the mask is 0 if none of them is fixed
pub record Upto (links : List ℕ) (v q mask value : ℕ) : Type 0 where
  pub room : mask < 2 ^ q
  pub low : value ≤ mask
  pub none : eqb mask 0 ≡ below q (λ p. not (ltb (linked links (suc (suc (16 * v + p)))) 2))
  pub says : (w : ℕ) → eqb (bit_and (w / 2 ^ (16 - q)) mask) value ≡ below q (fixed_bit links v w)

pub none_yet : (links : List ℕ) (v : ℕ) → Upto links v 0 0 0
unfolding below
none_yet links v = record { room = omega arith; low = omega arith; none = refl; says = λ w. ap (λ (n : ℕ). eqb n 0) (and_zero_r (w / 2 ^ 16)) }

module _ (links : List ℕ) (v q mask value link a b : ℕ) (l : q < 16) (e : link ≡ get_or links (suc (suc (16 * v + q))) 0)
    (ea : a ≡ cond (eqb link 0) 1 0) (eb : b ≡ cond (eqb link 1) 1 0) (u : Upto links v q mask value) where
  few : a + b ≤ 1
  few = rw (ea, eb) (one_of link)

  one_more : (w : ℕ) → eqb (bit_and (w / 2 ^ (16 - (q + 1))) (2 * mask + (a + b))) (2 * value + b) ≡ below (q + 1) (fixed_bit links v w)
  unfolding below fixed_bit fixed_place
  one_more w =
      let k : 16 - q ≡ suc (15 - q) = omega arith in
      let k' : 16 - (q + 1) ≡ 15 - q = omega arith in
      let x = w / 2 ^ (15 - q) in
      let y = bit_and (w / 2 ^ (16 - q)) mask in
      let half : x / 2 ≡ w / 2 ^ (16 - q) = bit_half w (15 - q) ∙ ap (λ (n : ℕ). w / 2 ^ n) (sym k) in
      let m : (2 * mask + (a + b)) / 2 ≡ mask = omega (arith, few) in
      let o : (2 * mask + (a + b)) % 2 ≡ a + b = omega (arith, few) in
      let step : bit_and x (2 * mask + (a + b)) ≡ y * 2 + min (x % 2) (a + b) = and_step x (2 * mask + (a + b)) ∙ rw (half, m, o) in
      let bit : eqb (min (x % 2) (a + b)) b ≡ implies (ltb link 2) (eqb (x % 2) link) = rw (ea, eb) (link_says (x % 2) link (omega arith)) in
      rw (k', step, digits_same y value (min (x % 2) (a + b)) b (omega arith) (omega (arith, few)), bit, u.says w, e, add-one)

  none_more : eqb (2 * mask + (a + b)) 0 ≡ below (q + 1) (λ p. not (ltb (linked links (suc (suc (16 * v + p)))) 2))
  unfolding below
  none_more =
      let free : eqb (a + b) 0 ≡ not (ltb link 2) = rw (ea, eb) (link_free link) in
      digits_none mask (a + b) ∙ rw (add-one, free, u.none, e)

  pub bit_more : Upto links v (q + 1) (2 * mask + (a + b)) (2 * value + b)
  bit_more = record { room = rw add-one (omega (arith, u.room, few)); low = omega (arith, u.low); none = none_more; says = one_more }

-- after 16 bits the mask and the value fit in 16 bits, and speak of the whole word
pub room_left : (links : List ℕ) (v q mask value : ℕ) → q ≤ 16 → Upto links v q mask value → (mask < 65536) × (value < 65536)
room_left links v q mask value l u =
    let p = pow_mono {i = q} {j = 16} l in
    (omega (arith, u.room), omega (arith, u.room, u.low))

whole : (links : List ℕ) (v mask value : ℕ) → Upto links v 16 mask value → FixedBits links v mask value
unfolding has_fixed
whole links v mask value u = record { low = u.low; some = ap not (sym u.none); says = λ w. ap (λ (x : ℕ). eqb (bit_and x mask) value) (sym (div-one w)) ∙ u.says w }

pub all-bits : (links : List ℕ) (v q mask value mask' value' : ℕ) → q ≤ 16 → 16 ≤ q → Upto links v q mask value → mask' ≡ mask % 65536 → value' ≡ value % 65536
    → FixedBits links v mask' value'
all-bits links v q mask value mask' value' k l u e f =
    let s = room_left links v q mask value k u in
    let z : q ≡ 16 = omega arith in
    let m : mask' ≡ mask = omega (arith, s.0) in
    let n : value' ≡ value = omega (arith, s.1) in
    rw (m, n) (whole links v mask value (subst (λ (x : ℕ). Upto links v x mask value) z u))

-- ---- the row of a variable

module _ (links : List ℕ) (v n : ℕ) (plan : List ℕ) (mask value : ℕ) (b : FixedBits links v mask value) where
  -- no fixed bits: the test of a mask 0 passes
  pub row_none : mask ≡ 0 → FixedRowPut links v n plan plan n
  row_none e = record {
    tests = λ window.
        let z : value ≡ 0 = omega (arith, b.low) in
        let p : true ≡ below 16 (fixed_bit links v (get_or window v 0)) =
        sym (rw (e, z, and_zero_r (get_or window v 0))) ∙ b.says (get_or window v 0) in
        ap (λ (t : Bool). t && below n (fixed_test plan window)) p;
    others = λ i l. refl;
  }

  -- how many there are then
  pub counted_none : mask ≡ 0 → n ≡ n + cond (has_fixed (linked links) v) 1 0
  counted_none e = rw (b.some, eq-eqb mask 0 e) (omega arith)

  pub counted_one : mask ≢ 0 → n + 1 ≡ n + cond (has_fixed (linked links) v) 1 0
  counted_one h = rw (b.some, ne_eqb mask 0 h)

  module _ (l : n < 64) (h : 260 ≤ length plan) where
    abbrev next : List ℕ
    next = set_four plan (4 * n + 4) v mask value 0

    earlier : (window : List ℕ) (j : ℕ) → j < n → fixed_test next window j ≡ fixed_test plan window j
    unfolding fixed_test
    earlier window j k =
        rw (four_other plan (4 * n + 4) v mask value 0 (4 * j + 4) (inl (omega arith)), four_other plan (4 * n + 4) v mask value 0 (4 * j + 5) (inl (omega arith)), four_other plan (4 * n + 4) v mask value 0 (4 * j + 6) (inl (omega arith)))

    last : (window : List ℕ) → fixed_test next window n ≡ below 16 (fixed_bit links v (get_or window v 0))
    unfolding fixed_test
    last window =
        let o : 4 * n + 5 ≡ 4 * n + 4 + 1 = omega arith in
        let p : 4 * n + 6 ≡ 4 * n + 4 + 2 = omega arith in
        rw (o, p, four_first plan (4 * n + 4) v mask value 0 (omega arith), four_second plan (4 * n + 4) v mask value 0 (omega arith), four_third plan (4 * n + 4) v mask value 0 (omega arith))
        (b.says (get_or window v 0))

    row_one : FixedRowPut links v n plan next (n + 1)
    unfolding below
    row_one = record {
      tests = λ window. rw (add-one, last window, below_same n (fixed_test next window) (fixed_test plan window) (earlier window));
      others = λ i k. four_other plan (4 * n + 4) v mask value 0 i (outside i k);
    }
      where
        outside : (i : ℕ) → (i < 4) ⊎ (260 ≤ i) → (i < 4 * n + 4) ⊎ (4 * n + 4 + 4 ≤ i)
        outside i (inl k) = inl (omega arith)
        outside i (inr k) = inr (omega arith)

-- as the code writes it
pub row_stored : (links : List ℕ) (v n : ℕ) (plan plan' : List ℕ) (mask value x : ℕ) → FixedBits links v mask value → v < 64 → n < 64 → x ≡ v % 65536
    → plan' ≡ set_four plan (4 * n + 4) x mask value 0 → 260 ≤ length plan → FixedRowPut links v n plan plan' (n + 1)
row_stored links v n plan plan' mask value x b k l e s h =
    let z : x ≡ v = omega arith in
    rw (s, z) (row_one links v n plan mask value b l h)

-- ---- the rows of all variables

-- tests below m + k: those below m, and k more from m on
pub below-add : (m k : ℕ) (f : ℕ → Bool) → below (m + k) f ≡ below k (λ q. f (m + q)) && below m f
unfolding below
below-add m zero f = let e : m + 0 ≡ m = omega arith in rw e
below-add m (suc k) f =
    let e : m + suc k ≡ suc (m + k) = omega arith in
    rw (e, below-add m k f) (sym (and_assoc (f (m + k)) (below k (λ q. f (m + q))) (below m f)))

-- a fixed place agrees with its link
link_bit : (window : List ℕ) (x link : ℕ) → implies (ltb link 2) (eqb x link) ≡ implies (ltb link 2) (eqb x (source_bit window link))
unfolding source_bit
link_bit window x zero = refl
link_bit window x (suc zero) = refl
link_bit window x (suc (suc k)) = rw (le-ltb (suc (suc k)) 2 (omega arith))

bit_agrees : (links window : List ℕ) (v q : ℕ) → q < 16
    → fixed_bit links v (get_or window v 0) q ≡ implies (fixed_place links (16 * v + q)) (agrees_at links window (16 * v + q))
unfolding fixed_bit fixed_place agrees_at
bit_agrees links window v q l =
    let a : (16 * v + q) / 16 ≡ v = omega arith in
    let b : (16 * v + q) % 16 ≡ q = omega arith in
    rw (place_bit window (16 * v + q), a, b) (link_bit window (get_or window v 0 / 2 ^ (15 - q) % 2) (get_or links (suc (suc (16 * v + q))) 0))

pub rows_none : (links plan : List ℕ) → FixedPut links 0 plan plan 0
unfolding below fixed_rows tally
rows_none links plan = record { few = omega arith; rows = refl; tests = λ window. refl; others = λ i l. refl }

pub rows_more : (links plan plan₁ plan₂ : List ℕ) (v n m : ℕ) → FixedPut links v plan plan₁ n → FixedRowPut links v n plan₁ plan₂ m
    → m ≡ n + cond (has_fixed (linked links) v) 1 0 → FixedPut links (v + 1) plan plan₂ m
unfolding fixed_rows tally
rows_more links plan plan₁ plan₂ v n m f r l = record {
  few = omega (arith, f.few, one_most (has_fixed (linked links) v));
  rows = rw add-one (omega (arith, f.rows));
  tests = λ window.
      let says : ℕ → Bool = λ i. implies (fixed_place links i) (agrees_at links window i) in
      let e : 16 * (v + 1) ≡ 16 * v + 16 = omega arith in
      let here : below 16 (fixed_bit links v (get_or window v 0)) ≡ below 16 (λ q. says (16 * v + q)) =
      below_same 16 (fixed_bit links v (get_or window v 0)) (λ q. says (16 * v + q)) (bit_agrees links window v) in
      r.tests window ∙ ap₂ ◌&&◌ here (f.tests window) ∙ sym (ap (λ (k : ℕ). below k says) e ∙ below-add (16 * v) 16 says);
  others = λ i k. r.others i k ∙ f.others i k;
}
