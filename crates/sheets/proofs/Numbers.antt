-- What a number comes to, one byte at a time.
use mathlib.Core.Path.{◌≡◌, refl, sym, ◌∙◌, ap}
use mathlib.Core.Bool.{Bool, true, false}
use Prim.Native.Nat.{ℕ, zero, suc, ◌+◌, ◌*◌, ◌-◌, ◌^◌, ◌<◌, ◌≤◌}
use mathlib.Core.List.{List, ◌∷◌}
use native.Mathlib.Omega.{arith}
use native.Mathlib.Nat.{pow-le-pow_right}
use native.Mathlib.Numerals.{add-one}
use lib.ListN.{length, get_or, drop, drop_of_length-le}
use lib.Seq.{drop-cons}
use lib.Dec.{ltb, eqb}
use borrow.Author.Tests.{lt-ltb, le-ltb, eq-eqb, ne_eqb, ltb-true, ltb-false}
use Rattle.sheets.specs.Text.{Value, NoNumber, digit_of, hex_digit_of, more_digits, after_zero, decimal_here, decimal_at, more_hex_digits, hexadecimal_here, hexadecimal_at, number_here, number_at, sees}
use Rattle.sheets.proofs.Fields.{seen_within, seen_byte}

pub at_byte : (s : List ℕ) (i : ℕ) → i < length s → drop i s ≡ get_or s i 0 ∷ drop (i + 1) s
at_byte s i l = drop-cons s i 0 l ∙ ap (λ (n : ℕ). get_or s i 0 ∷ drop n s) (sym (add-one i))

module _ (s : List ℕ) (at : ℕ) where
  pub past : length s ≤ at → NoNumber ≡ decimal_at s at
  unfolding decimal_here
  past l = rw (drop_of_length-le s l)

  module _ (l : at < length s) (d : ℕ) (e : d ≡ digit_of (get_or s at 0)) where
    pub not_digit : 9 < d → NoNumber ≡ decimal_at s at
    unfolding decimal_here
    not_digit h = rw (at_byte s at l, ← e, lt-ltb 9 d h)

    zero_is : d ≡ 0 → after_zero (at + 1) (drop (at + 1) s) ≡ decimal_at s at
    unfolding decimal_here
    zero_is z = rw (at_byte s at l, ← e, z)

    pub zero_last : d ≡ 0 → length s ≤ at + 1 → Value 0 (at + 1) ≡ decimal_at s at
    unfolding after_zero
    zero_last z k = rw (drop_of_length-le s k) at (zero_is z)

    pub zero_digit : d ≡ 0 → at + 1 < length s → digit_of (get_or s (at + 1) 0) ≤ 9 → NoNumber ≡ decimal_at s at
    unfolding after_zero
    zero_digit z k h = rw (at_byte s (at + 1) k, le-ltb 9 _ h) at (zero_is z)

    pub zero_other : d ≡ 0 → at + 1 < length s → 9 < digit_of (get_or s (at + 1) 0) → Value 0 (at + 1) ≡ decimal_at s at
    unfolding after_zero
    zero_other z k h = rw (at_byte s (at + 1) k, lt-ltb 9 _ h) at (zero_is z)

    pub starts : d ≤ 9 → (d ≡ 0 → ⊥) → more_digits d (at + 1) (drop (at + 1) s) ≡ decimal_at s at
    unfolding decimal_here
    starts h z = rw (at_byte s at l, ← e, le-ltb 9 d h, ne_eqb d 0 z)

module _ (s : List ℕ) (v i : ℕ) where
  pub ends : length s ≤ i → Value v i ≡ more_digits v i (drop i s)
  unfolding more_digits
  ends k = rw (drop_of_length-le s k)

  module _ (l : i < length s) (d : ℕ) (e : d ≡ digit_of (get_or s i 0)) where
    pub stops : 9 < d → Value v i ≡ more_digits v i (drop i s)
    unfolding more_digits
    stops h = rw (at_byte s i l, ← e, lt-ltb 9 d h)

    pub over : d ≤ 9 → 65535 < v * 10 + d → NoNumber ≡ more_digits v i (drop i s)
    unfolding more_digits
    over h k = rw (at_byte s i l, ← e, le-ltb 9 d h, lt-ltb 65535 (v * 10 + d) k)

    pub goes-on : d ≤ 9 → v * 10 + d ≤ 65535 → more_digits (v * 10 + d) (i + 1) (drop (i + 1) s) ≡ more_digits v i (drop i s)
    unfolding more_digits
    goes-on h k = rw (at_byte s i l, ← e, le-ltb 9 d h, le-ltb 65535 (v * 10 + d) k)

-- behind h: the first digit
module _ (s : List ℕ) (at : ℕ) where
  pub hex_past : length s ≤ at → NoNumber ≡ hexadecimal_at s at
  unfolding hexadecimal_here
  hex_past l = rw (drop_of_length-le s l)

  module _ (l : at < length s) (d : ℕ) (e : d ≡ hex_digit_of (get_or s at 0)) where
    pub hex_not_digit : 15 < d → NoNumber ≡ hexadecimal_at s at
    unfolding hexadecimal_here
    hex_not_digit h = rw (at_byte s at l, ← e, lt-ltb 15 d h)

    pub hex_starts : d ≤ 15 → more_hex_digits 3 d (at + 1) (drop (at + 1) s) ≡ hexadecimal_at s at
    unfolding hexadecimal_here
    hex_starts h = rw (at_byte s at l, ← e, le-ltb 15 d h)

-- the value has room in the digits read so far, which are four where m more may stand, and so in four
pub room_most : (m v : ℕ) → v < 16 ^ (4 - m) → v ≤ 65535
room_most m v h = omega (arith, h, pow-le-pow_right {n = 16} (omega arith) {i = 4 - m} {j = 4} (omega arith))

pub room_next : (m fewer v d : ℕ) → m ≤ 3 → m ≡ suc fewer → d ≤ 15 → v < 16 ^ (4 - m) → v * 16 + d < 16 ^ (4 - fewer)
room_next m fewer v d l e k h = let i : 4 - fewer ≡ suc (4 - m) = omega arith in rw i (omega arith)

-- and further ones, of which m may stand
module _ (s : List ℕ) (m v i : ℕ) where
  pub hex_ends : length s ≤ i → Value v i ≡ more_hex_digits m v i (drop i s)
  unfolding more_hex_digits
  hex_ends k = rw (drop_of_length-le s k)

  module _ (l : i < length s) (d : ℕ) (e : d ≡ hex_digit_of (get_or s i 0)) where
    pub hex_stops : 15 < d → Value v i ≡ more_hex_digits m v i (drop i s)
    unfolding more_hex_digits
    hex_stops h = rw (at_byte s i l) (go m)
      where
        go : (m : ℕ) → Value v i ≡ more_hex_digits m v i (get_or s i 0 ∷ drop (i + 1) s)
        go zero = rw (← e, lt-ltb 15 d h)
        go (suc m) = rw (← e, lt-ltb 15 d h)

    pub hex_over : d ≤ 15 → m ≡ 0 → NoNumber ≡ more_hex_digits m v i (drop i s)
    unfolding more_hex_digits
    hex_over h z = rw (z, at_byte s i l, ← e, le-ltb 15 d h)

    pub hex_goes_on : (fewer : ℕ) → d ≤ 15 → m ≡ suc fewer
        → more_hex_digits fewer (v * 16 + d) (i + 1) (drop (i + 1) s) ≡ more_hex_digits m v i (drop i s)
    unfolding more_hex_digits
    hex_goes_on fewer h z = rw (z, at_byte s i l, ← e, le-ltb 15 d h)

-- hexadecimal or decimal, by whether h is seen
module _ (s : List ℕ) (at : ℕ) where
  pub h_seen : sees s at 104 ≡ true → hexadecimal_at s (at + 1) ≡ number_at s at
  unfolding number_here
  h_seen h = rw (at_byte s at (seen_within s at 104 h), eq-eqb (get_or s at 0) 104 (seen_byte s at 104 h))

  pub h_unseen : sees s at 104 ≡ false → decimal_at s at ≡ number_at s at
  unfolding number_here decimal_here sees
  h_unseen h = go (ltb at (length s)) (eqb (get_or s at 0) 104) refl refl
    where
      go : (t u : Bool) → ltb at (length s) ≡ t → eqb (get_or s at 0) 104 ≡ u → decimal_at s at ≡ number_at s at
      go true true p q = let z : true ≡ false = rw (p, q) at h in cc
      go true false p q = rw (at_byte s at (ltb-true at (length s) p), q)
      go false u p q = rw (drop_of_length-le s (ltb-false at (length s) p))
