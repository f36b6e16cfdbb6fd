-- A number that was written in one of its spellings is read back, and a number that was read stands there in one of them: behind the letter
-- h there are hexadecimal digits, and no decimal number begins with it. Assumes nothing.
use mathlib.Core.Path.{◌≡◌, refl, ◌∙◌, ap}
use mathlib.Core.Bool.{Bool, true, false, ◌&&◌, cond}
use mathlib.Core.List.{List, [], ◌∷◌, ◌++◌}
use Prim.Native.Nat.{ℕ, ◌+◌, ◌^◌, ◌<◌, ◌≤◌}
use native.Mathlib.Omega.{arith}
use native.Mathlib.Nat.{pow-le-pow_right}
use lib.Dec.{ltb, eqb}
use lib.ListN.{length}
use borrow.Author.Tests.{lt-ltb, ltb-true, ltb-false, eqb-true}
use Rattle.laws.proofs.Bools.{and_first, and_second}
use Rattle.sheets.specs.Text.{Value, NoNumber, digit_of, hex_digit_of, decimal_here, hexadecimal_here, number_here}
use Rattle.sheets.specs.Writing.{decimal, hex_digits, has_room, spelled}
use Rattle.sheets.proofs.Decimal.{decimal_read, decimal-written}
use Rattle.sheets.proofs.Hexadecimal.{hex_length, hexadecimal_read, hexadecimal_written}

-- a spelling with h: one to four digits, and room in them
record Room (k n : ℕ) : Type 0 where
  least : 1 ≤ k
  most : k ≤ 4
  room : n < 16 ^ k

room_is : (k n : ℕ) → has_room k n ≡ true → Room k n
unfolding has_room
room_is k n h =
    let tests = ltb k 5 && ltb n (16 ^ k) in
    let later = and_second (ltb 0 k) tests h in
    record {
      least = ltb-true 0 k (and_first (ltb 0 k) tests h);
      most = omega (arith, ltb-true k 5 (and_first (ltb k 5) (ltb n (16 ^ k)) later));
      room = ltb-true n (16 ^ k) (and_second (ltb k 5) (ltb n (16 ^ k)) later);
    }

-- a number with h, and in decimal
spelled_hexadecimal : (k n : ℕ) → 1 ≤ k → k ≤ 4 → n < 16 ^ k → spelled k n ≡ 104 ∷ hex_digits k n
unfolding has_room spelled
spelled_hexadecimal k n l u h = rw (lt-ltb 0 k l, lt-ltb k 5 (omega arith), lt-ltb n (16 ^ k) h)

spelled-decimal : (n : ℕ) → spelled 0 n ≡ decimal n
unfolding has_room spelled
spelled-decimal n = refl

-- a byte that is no hexadecimal digit is no decimal one
no_digit : (byte : ℕ) → 15 < hex_digit_of byte → 9 < digit_of byte
unfolding hex_digit_of
no_digit byte h = go (ltb (digit_of byte) 10) refl
  where
    go : (t : Bool) → ltb (digit_of byte) 10 ≡ t → 9 < digit_of byte
    go true e = let d : digit_of byte < 10 = ltb-true (digit_of byte) 10 e in let z : 15 < digit_of byte = rw e at h in absurd (omega arith)
    go false e = ltb-false (digit_of byte) 10 e

-- no decimal number begins with h
pub number_decimal : (at : ℕ) (s : List ℕ) (n to : ℕ) → decimal_here at s ≡ Value n to → number_here at s ≡ Value n to
unfolding number_here decimal_here digit_of
number_decimal at [] n to e = e
number_decimal at (byte ∷ s) n to e = go (eqb byte 104) refl
  where
    go : (t : Bool) → eqb byte 104 ≡ t → cond t (hexadecimal_here (at + 1) s) (decimal_here at (byte ∷ s)) ≡ Value n to
    go true p =
        let no : NoNumber ≡ Value n to = rw (eqb-true byte 104 p) at e in
        let z : ◌≡◌ {A = ℕ} 0 1 = cc in
        absurd (omega arith)
    go false p = e

-- a number that was written is read back, where a byte that is no digit stands behind it
pub number_read : (k n at byte : ℕ) (rest : List ℕ) → n ≤ 65535 → 15 < hex_digit_of byte
    → number_here at (spelled k n ++ (byte ∷ rest)) ≡ Value n (at + length (spelled k n))
unfolding spelled
number_read k n at byte rest h e = go (has_room k n) refl
  where
    go : (t : Bool) → has_room k n ≡ t
        → number_here at (cond t (104 ∷ hex_digits k n) (decimal n) ++ (byte ∷ rest)) ≡ Value n (at + length (cond t (104 ∷ hex_digits k n) (decimal n)))
    go true p =
        let r = room_is k n p in
        unfold number_here in (hexadecimal_read k n (at + 1) byte rest r.least r.most r.room e ∙ ap (λ (i : ℕ). Value n i) (omega (arith, hex_length k n)))
    go false p = number_decimal at (decimal n ++ (byte ∷ rest)) n (at + length (decimal n)) (decimal_read n at byte rest h (no_digit byte e))

-- a number that was read stands there as it is written
pub record Written (n at : ℕ) (s : List ℕ) (to : ℕ) : Type 0 where
  pub small : n ≤ 65535
  pub spelling : ℕ
  pub rest : List ℕ
  pub split : s ≡ spelled spelling n ++ rest
  pub behind : to ≡ at + length (spelled spelling n)

pub number_written : (at : ℕ) (s : List ℕ) (n to : ℕ) → number_here at s ≡ Value n to → Written n at s to
unfolding number_here
number_written at [] n to e = let z : ◌≡◌ {A = ℕ} 0 1 = cc in absurd (omega arith)
number_written at (byte ∷ s) n to e = go (eqb byte 104) refl e
  where
    go : (t : Bool) → eqb byte 104 ≡ t → cond t (hexadecimal_here (at + 1) s) (decimal_here at (byte ∷ s)) ≡ Value n to → Written n at (byte ∷ s) to
    go true p e =
        let w = hexadecimal_written (at + 1) s n to e in
        let is : byte ≡ 104 = eqb-true byte 104 p in
        let there : spelled w.count n ≡ 104 ∷ hex_digits w.count n = spelled_hexadecimal w.count n w.least w.most w.room in
        record {
          small = omega (arith, w.room, pow-le-pow_right {n = 16} (omega arith) w.most);
          spelling = w.count;
          rest = w.rest;
          split = rw (there, is) (ap (λ (l : List ℕ). 104 ∷ l) w.split);
          behind = rw there (omega (arith, w.behind, hex_length w.count n));
        }
    go false p e =
        let w = decimal-written at (byte ∷ s) n to e in
        record { small = w.small; spelling = 0; rest = w.rest; split = rw (spelled-decimal n) w.split; behind = rw (spelled-decimal n) w.behind }
