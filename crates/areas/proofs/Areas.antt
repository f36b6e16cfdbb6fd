-- Work areas and the holders that links give: numbers taken together bit by bit, and an area that is the links' exactly if its first numbers
-- are the holders and all others are 0. Assumes nothing.
use mathlib.Core.Path.{◌≡◌, refl, sym, ◌∙◌, ap, ap₂}
use mathlib.Core.Bool.{Bool, true, false, ◌&&◌}
use mathlib.Core.List.{List, [], ◌∷◌, map}
use Prim.Native.Nat.{ℕ, zero, suc, ◌+◌, ◌-◌, ◌≤◌, ◌<◌, min}
use native.Mathlib.Omega.{arith}
use lib.Bits.{bit_or, bit_xor, or_add_and, xor_add_and, and_le_l, and_le_r, xor_self}
use lib.Dec.{eqb}
use lib.ListN.{length, get_or, take, drop, replicate, length-append, length-replicate, length-drop, length-map, get_or-append}
use lib.Seq.{take-nil, get_or-drop, get_or-append-add, ext_get_or}
use mathlib.Core.Logic.{⊎_elim}
use borrow.Author.Tests.{eqb-true, eq-eqb}
use Rattle.laws.specs.Lists.{below}
use Rattle.laws.specs.Buffers.{overwrite}
use Rattle.laws.proofs.Bools.{same_test, and_both, and_parts}
use Rattle.laws.proofs.Numbers.{lt_or_le}
use Rattle.laws.proofs.Tallies.{below_of, below_at}
use Rattle.terms.specs.Table.{same_word}
use Rattle.terms.proofs.Satisfies.{same-word, word_same}
use Rattle.jobs.specs.Prefix.{host_number}
use Rattle.jobs.specs.State.{area_of}
use Rattle.areas.specs.inner.Areas.{held_by, agree, all_zero}

-- ---- bits taken together

-- they are none exactly if neither number has any
pub or_none : (d x : ℕ) → eqb (bit_or d x) 0 ≡ eqb x 0 && eqb d 0
or_none d x =
    same_test (eqb (bit_or d x) 0) (eqb x 0 && eqb d 0)
    (λ h.
    let e = eqb-true (bit_or d x) 0 h in
    and_both (eqb x 0) (eqb d 0)
    (eq-eqb x 0 (omega (arith, e, or_add_and d x, and_le_l d x, and_le_r d x)))
    (eq-eqb d 0 (omega (arith, e, or_add_and d x, and_le_l d x, and_le_r d x))))
    (λ h.
    let e = and_parts (eqb x 0) (eqb d 0) h in
    eq-eqb (bit_or d x) 0 (omega (arith, eqb-true x 0 e.0, eqb-true d 0 e.1, or_add_and d x)))

-- two numbers differ in no bit exactly if they are equal
pub xor_none : (x y : ℕ) → eqb (bit_xor x y) 0 ≡ eqb y x
xor_none x y =
    same_test (eqb (bit_xor x y) 0) (eqb y x)
    (λ h. eq-eqb y x (omega (arith, eqb-true (bit_xor x y) 0 h, xor_add_and x y, and_le_l x y, and_le_r x y)))
    (λ h. eq-eqb (bit_xor x y) 0 (ap (λ (z : ℕ). bit_xor x z) (eqb-true y x h) ∙ xor_self x))

-- ---- the holders of links

map_at : (f : ℕ → ℕ) (c : List ℕ) (i : ℕ) → i < length c → get_or (map f c) i 0 ≡ f (get_or c i 0)
map_at f [] i h = absurd (omega arith)
map_at f (x ∷ c) zero h = refl
map_at f (x ∷ c) (suc i) h = map_at f c i (omega arith)

pub held-count : (links : List ℕ) → length (held_by links) ≡ length (drop 2 links)
unfolding held_by
held-count links = length-map (drop 2 links) host_number

-- the holder of place i
pub held_at : (links : List ℕ) (i : ℕ) → i < length (drop 2 links) → get_or (held_by links) i 0 ≡ host_number (get_or (drop 2 links) i 0)
unfolding held_by
held_at links i h = map_at host_number (drop 2 links) i h

-- ---- the loops

-- no bit so far, and the next number
pub none_first : (f : ℕ → Bool) → eqb 0 0 ≡ below 0 f
unfolding below
none_first f = refl

pub together_more : (xs : List ℕ) (i d x : ℕ) → x ≡ get_or xs i 0 → eqb d 0 ≡ below i (λ k. eqb (get_or xs k 0) 0)
    → eqb (bit_or d x) 0 ≡ below (i + 1) (λ k. eqb (get_or xs k 0) 0)
unfolding below
together_more xs i d x e h =
    let one : i + 1 ≡ suc i = omega arith in
    or_none d x ∙ ap₂ (λ (a b : Bool). a && b) (ap (λ (z : ℕ). eqb z 0) e) h ∙ ap (λ (j : ℕ). below j (λ k. eqb (get_or xs k 0) 0)) (sym one)

pub differ_more : (links work : List ℕ) (i d x y : ℕ) → i < length (drop 2 links) → x ≡ get_or work i 0 → y ≡ host_number (get_or (drop 2 links) i 0)
    → eqb d 0 ≡ below i (λ k. eqb (get_or (held_by links) k 0) (get_or work k 0))
    → eqb (bit_or d (bit_xor x y)) 0 ≡ below (i + 1) (λ k. eqb (get_or (held_by links) k 0) (get_or work k 0))
unfolding below
differ_more links work i d x y l e f h =
    let one : i + 1 ≡ suc i = omega arith in
    or_none d (bit_xor x y)
    ∙ ap₂ (λ (a b : Bool). a && b) (xor_none x y ∙ ap₂ eqb (f ∙ sym (held_at links i l)) e) h
    ∙ ap (λ (j : ℕ). below j (λ k. eqb (get_or (held_by links) k 0) (get_or work k 0))) (sym one)

-- ---- an area is the links'

area_long : (n : ℕ) (held : List ℕ) → length held ≤ n → length (area_of n held) ≡ n
unfolding area_of
area_long n held l = length-append held (replicate (n - length held) 0) ∙ ap (λ (k : ℕ). length held + k) (length-replicate {A = ℕ} (n - length held) 0) ∙ omega arith

area_most : (n : ℕ) (held : List ℕ) → length held ≤ length (area_of n held)
unfolding area_of
area_most n held = omega (arith, length-append held (replicate (n - length held) 0))

area_held : (n : ℕ) (held : List ℕ) (i : ℕ) → i < length held → get_or (area_of n held) i 0 ≡ get_or held i 0
unfolding area_of
area_held n held i h = get_or-append held (replicate (n - length held) 0) 0 i h

zero_at : (k i : ℕ) → get_or {A = ℕ} (replicate k 0) i 0 ≡ 0
zero_at zero i = refl
zero_at (suc k) zero = refl
zero_at (suc k) (suc i) = zero_at k i

area_past : (n : ℕ) (held : List ℕ) (i : ℕ) → get_or (area_of n held) (length held + i) 0 ≡ 0
unfolding area_of
area_past n held i = get_or-append-add held (replicate (n - length held) 0) i 0 ∙ zero_at (n - length held) i

module _ (held work : List ℕ) where
  abbrev area : List ℕ
  area = area_of (length work) held

  -- an area below the holders' number is none
  pub too_short : length work < length held → same_word (area_of (length work) held) work ≡ false
  too_short l = go (same_word (area_of (length work) held) work) refl
    where
      go : (b : Bool) → same_word (area_of (length work) held) work ≡ b → b ≡ false
      go true e = absurd (omega (arith, l, area_most (length work) held, ap length (same-word (area_of (length work) held) work e)))
      go false e = refl

  module _ (l : length held ≤ length work) where
    held_same : agree held work ≡ true → (i : ℕ) → i < length held → get_or held i 0 ≡ get_or work i 0
    unfolding agree
    held_same a i h = eqb-true (get_or held i 0) (get_or work i 0) (below_at _ (λ j. eqb (get_or held j 0) (get_or work j 0)) a i (omega arith))

    rest_same : all_zero (drop (length held) work) ≡ true → (i : ℕ) → length held ≤ i → i < length work → get_or work i 0 ≡ 0
    unfolding all_zero
    rest_same z i k h =
        let at : length held + (i - length held) ≡ i = omega arith in
        let read : get_or (drop (length held) work) (i - length held) 0 ≡ get_or work i 0 = get_or-drop (length held) work (i - length held) 0 ∙ ap (λ (j : ℕ). get_or work j 0) at in
        sym read
        ∙ eqb-true _ 0 (below_at _ (λ j. eqb (get_or (drop (length held) work) j 0) 0) z (i - length held) (omega (arith, length-drop (length held) work)))

    numbers-of : agree held work ≡ true → all_zero (drop (length held) work) ≡ true → area_of (length work) held ≡ work
    numbers-of a z =
        let long = area_long (length work) held l in
        ext_get_or 0 (area_of (length work) held) work long
        (λ i h.
        ⊎_elim (λ k. area_held (length work) held i k ∙ held_same a i k)
        (λ k.
        let at : length held + (i - length held) ≡ i = omega arith in
        ap (λ (j : ℕ). get_or (area_of (length work) held) j 0) (sym at) ∙ area_past (length work) held (i - length held) ∙ sym (rest_same z i k (omega (arith, h, long))))
        (lt_or_le i (length held)))

    held-agree : area_of (length work) held ≡ work → agree held work ≡ true
    unfolding agree
    held-agree e =
        below_of _ (λ j. eqb (get_or held j 0) (get_or work j 0))
        (λ i h. eq-eqb _ _ (sym (area_held (length work) held i (omega arith)) ∙ ap (λ (w : List ℕ). get_or w i 0) e))

    rest_zero : area_of (length work) held ≡ work → all_zero (drop (length held) work) ≡ true
    unfolding all_zero
    rest_zero e =
        below_of _ (λ j. eqb (get_or (drop (length held) work) j 0) 0)
        (λ i h. eq-eqb _ _ (get_or-drop (length held) work i 0 ∙ ap (λ (w : List ℕ). get_or w (length held + i) 0) (sym e) ∙ area_past (length work) held i))

    pub area_is : same_word (area_of (length work) held) work ≡ agree held work && all_zero (drop (length held) work)
    area_is =
        same_test (same_word (area_of (length work) held) work) (agree held work && all_zero (drop (length held) work))
        (λ h.
        let e = same-word (area_of (length work) held) work h in
        and_both (agree held work) (all_zero (drop (length held) work)) (held-agree e) (rest_zero e))
        (λ h.
        let both = and_parts (agree held work) (all_zero (drop (length held) work)) h in
        ap (same_word (area_of (length work) held)) (sym (numbers-of both.0 both.1)) ∙ word_same (area_of (length work) held))

-- ---- holders written

-- as many as there is room for are all that overwriting writes
pub held_put : (new old : List ℕ) (i : ℕ) → i ≡ min (length new) (length old) → overwrite (take i new) old ≡ overwrite new old
unfolding overwrite
held_put [] old i e = ap (λ (l : List ℕ). overwrite l old) (take-nil i)
held_put (x ∷ new) [] zero e = refl
held_put (x ∷ new) [] (suc i) e = absurd (omega arith)
held_put (x ∷ new) (y ∷ old) zero e = absurd (omega arith)
held_put (x ∷ new) (y ∷ old) (suc i) e = ap (λ (l : List ℕ). x ∷ l) (held_put new old i (omega arith))
