-- Reading back a number that was written in hexadecimal, and what a number that was read so was written as. The invariant of reading: the
-- digits read so far are those of the value so far, leading zeros among them. Assumes nothing.
use mathlib.Core.Path.{◌≡◌, refl, sym, ◌∙◌, ap}
use mathlib.Core.Bool.{Bool, true, false, cond}
use mathlib.Core.List.{List, [], ◌∷◌, ◌++◌, append_assoc, append-nil}
use Prim.Native.Nat.{ℕ, zero, suc, ◌+◌, ◌*◌, ◌-◌, ◌/◌, ◌%◌, ◌^◌, ◌<◌, ◌≤◌}
use native.Mathlib.Omega.{arith}
use lib.Dec.{ltb}
use lib.ListN.{length, length-append}
use borrow.Author.Tests.{lt-ltb, le-ltb, ltb-true, ltb-false}
use Rattle.sheets.specs.Text.{Value, NoNumber, digit_of, hex_digit_of, more_hex_digits, hexadecimal_here}
use Rattle.sheets.specs.Writing.{hex_digit, hex_digits}
use Rattle.sheets.proofs.Decimal.{digit-of, byte_of}

-- the byte of a digit, and the digit of a byte
letter_of : (d : ℕ) → 10 ≤ d → d < 16 → hex_digit_of (87 + d) ≡ d
unfolding hex_digit_of digit_of
letter_of d l h =
    rw (
      le-ltb (87 + d) 48 (omega arith),
      lt-ltb 57 (87 + d) (omega arith),
      le-ltb (87 + d) 97 (omega arith),
      le-ltb 102 (87 + d) (omega arith),
    )
    (omega arith)

hex-digit-of : (d : ℕ) → d < 16 → hex_digit_of (hex_digit d) ≡ d
unfolding hex_digit
hex-digit-of d h = go (ltb d 10) refl
  where
    go : (t : Bool) → ltb d 10 ≡ t → hex_digit_of (cond t (48 + d) (87 + d)) ≡ d
    go true e = unfold hex_digit_of in (rw (digit-of d (ltb-true d 10 e), e))
    go false e = letter_of d (ltb-false d 10 e) h

hex_byte_of : (byte : ℕ) → hex_digit_of byte ≤ 15 → byte ≡ hex_digit (hex_digit_of byte)
unfolding hex_digit_of hex_digit
hex_byte_of byte h = go (ltb (digit_of byte) 10) (ltb byte 97) (ltb 102 byte) refl refl refl
  where
    go : (t u w : Bool) → ltb (digit_of byte) 10 ≡ t → ltb byte 97 ≡ u → ltb 102 byte ≡ w → byte ≡ hex_digit (hex_digit_of byte)
    go true u w e f g = let d : digit_of byte < 10 = ltb-true (digit_of byte) 10 e in rw (e, e) (byte_of byte (omega arith))
    go false true w e f g = let z : 16 ≤ 15 = rw (e, f) at h in absurd (omega arith)
    go false false true e f g = let z : 16 ≤ 15 = rw (e, f, g) at h in absurd (omega arith)
    go false false false e f g =
        let l : 97 ≤ byte = ltb-false byte 97 f in
        rw (e, f, g, le-ltb (byte - 87) 10 (omega arith)) (omega arith)

-- a byte that is no digit ends a number
hex_ends : (m v at byte : ℕ) (s : List ℕ) → 15 < hex_digit_of byte → more_hex_digits m v at (byte ∷ s) ≡ Value v at
unfolding more_hex_digits
hex_ends zero v at byte s h = rw (lt-ltb 15 (hex_digit_of byte) h)
hex_ends (suc m) v at byte s h = rw (lt-ltb 15 (hex_digit_of byte) h)

-- one more digit is read
hex_digit_read : (m v d at : ℕ) (s : List ℕ) → d < 16 → more_hex_digits (suc m) v at (hex_digit d ∷ s) ≡ more_hex_digits m (v * 16 + d) (at + 1) s
unfolding more_hex_digits
hex_digit_read m v d at s h = rw (hex-digit-of d h, le-ltb 15 d (omega arith))

pub hex_length : (k n : ℕ) → length (hex_digits k n) ≡ k
unfolding hex_digits
hex_length zero n = refl
hex_length (suc k) n = omega (arith, length-append (hex_digits k (n / 16)) (hex_digit (n % 16) ∷ []), hex_length k (n / 16))

-- what follows one to four digits of a number is read on from its value
hex_digits_read : (k m n at : ℕ) (s : List ℕ) → k + m ≡ 3 → n < 16 ^ suc k
    → hexadecimal_here at (hex_digits (suc k) n ++ s) ≡ more_hex_digits m n (at + suc k) s
unfolding hex_digits hexadecimal_here
hex_digits_read zero m n at s e h =
    let i : m ≡ 3 = omega arith in
    let j : n % 16 ≡ n = omega arith in
    rw (j, hex-digit-of n (omega arith), le-ltb 15 n (omega arith), i)
hex_digits_read (suc k) m n at s e h =
    let d = n % 16 in
    let x = hex_digits (suc k) (n / 16) in
    let same : n / 16 * 16 + d ≡ n = omega arith in
    ap (hexadecimal_here at) (append_assoc x (hex_digit d ∷ []) s)
    ∙ hex_digits_read k (suc m) (n / 16) at (hex_digit d ∷ s) (omega arith) (omega arith)
    ∙ hex_digit_read m (n / 16) d (at + suc k) s (omega arith)
    ∙ ap (λ (v : ℕ). more_hex_digits m v (at + suc k + 1) s) same
    ∙ ap (λ (i : ℕ). more_hex_digits m n i s) (omega arith)

-- a number that was written is read back
pub hexadecimal_read : (k n at byte : ℕ) (rest : List ℕ) → 1 ≤ k → k ≤ 4 → n < 16 ^ k → 15 < hex_digit_of byte
    → hexadecimal_here at (hex_digits k n ++ (byte ∷ rest)) ≡ Value n (at + k)
hexadecimal_read zero n at byte rest l u h e = absurd (omega arith)
hexadecimal_read (suc k) n at byte rest l u h e =
    hex_digits_read k (3 - k) n at (byte ∷ rest) (omega arith) h ∙ hex_ends (3 - k) n (at + suc k) byte rest e

-- one more digit is written
hex_digit_written : (k v d : ℕ) → d < 16 → hex_digits (suc k) (v * 16 + d) ≡ hex_digits k v ++ (hex_digit d ∷ [])
unfolding hex_digits
hex_digit_written k v d h =
    let q : (v * 16 + d) / 16 ≡ v = omega arith in
    let r : (v * 16 + d) % 16 ≡ d = omega arith in
    rw (q, r)

-- what was read of a number behind its first k digits
record MoreHex (k v at : ℕ) (s : List ℕ) (n to : ℕ) : Type 0 where
  count : ℕ
  most : count ≤ 4
  room : n < 16 ^ count
  more : List ℕ
  rest : List ℕ
  split : s ≡ more ++ rest
  whole : hex_digits count n ≡ hex_digits k v ++ more
  behind : to ≡ at + length more

hex_more_none : (k v at : ℕ) (s : List ℕ) (n to : ℕ) → k ≤ 4 → v < 16 ^ k → Value v at ≡ Value n to → MoreHex k v at s n to
hex_more_none k v at s n to l h e =
    let same : v ≡ n = cc in
    let there : at ≡ to = cc in
    record {
      count = k;
      most = l;
      room = omega arith;
      more = [];
      rest = s;
      split = refl;
      whole = ap (hex_digits k) (sym same) ∙ sym (append-nil (hex_digits k v));
      behind = sym there ∙ omega arith;
    }

hex_more_written : (m k v at : ℕ) (s : List ℕ) (n to : ℕ) → k + m ≡ 4 → v < 16 ^ k → more_hex_digits m v at s ≡ Value n to → MoreHex k v at s n to
unfolding more_hex_digits
hex_more_written m k v at [] n to l h e = hex_more_none k v at [] n to (omega arith) h e
hex_more_written zero k v at (byte ∷ s) n to l h e = go (ltb 15 (hex_digit_of byte)) e
  where
    go : (t : Bool) → cond t (Value v at) NoNumber ≡ Value n to → MoreHex k v at (byte ∷ s) n to
    go true e = hex_more_none k v at (byte ∷ s) n to (omega arith) h e
    go false e = let z : ◌≡◌ {A = ℕ} 0 1 = cc in absurd (omega arith)
hex_more_written (suc m) k v at (byte ∷ s) n to l h e =
    go (ltb 15 (hex_digit_of byte)) refl e (hex_more_written m (suc k) (v * 16 + hex_digit_of byte) (at + 1) s n to (omega arith))
  where
    go : (t : Bool) → ltb 15 (hex_digit_of byte) ≡ t
        → cond t (Value v at) (more_hex_digits m (v * 16 + hex_digit_of byte) (at + 1) s) ≡ Value n to
        → (v * 16 + hex_digit_of byte < 16 ^ suc k → more_hex_digits m (v * 16 + hex_digit_of byte) (at + 1) s ≡ Value n to
        → MoreHex (suc k) (v * 16 + hex_digit_of byte) (at + 1) s n to)
        → MoreHex k v at (byte ∷ s) n to
    go true p e later = hex_more_none k v at (byte ∷ s) n to (omega arith) h e
    go false p e later =
        let u : hex_digit_of byte ≤ 15 = ltb-false 15 (hex_digit_of byte) p in
        let w = later (omega arith) e in
        record {
          count = w.count;
          most = w.most;
          room = w.room;
          more = byte ∷ w.more;
          rest = w.rest;
          split = ap (λ (x : List ℕ). byte ∷ x) w.split;
          whole =
              w.whole ∙ ap (λ (x : List ℕ). x ++ w.more) (hex_digit_written k v (hex_digit_of byte) (omega arith))
              ∙ append_assoc (hex_digits k v) (hex_digit (hex_digit_of byte) ∷ []) w.more
              ∙ ap (λ (b : ℕ). hex_digits k v ++ (b ∷ w.more)) (sym (hex_byte_of byte u));
          behind = omega (arith, w.behind);
        }

-- a number that was read stands there as it is written, in one to four digits in which it has room
pub record InHexadecimal (n at : ℕ) (s : List ℕ) (to : ℕ) : Type 0 where
  pub count : ℕ
  pub least : 1 ≤ count
  pub most : count ≤ 4
  pub room : n < 16 ^ count
  pub rest : List ℕ
  pub split : s ≡ hex_digits count n ++ rest
  pub behind : to ≡ at + count

hex_digit_alone : (d : ℕ) → d < 16 → hex_digits 1 d ≡ hex_digit d ∷ []
unfolding hex_digits
hex_digit_alone d h = let r : d % 16 ≡ d = omega arith in rw r

pub hexadecimal_written : (at : ℕ) (s : List ℕ) (n to : ℕ) → hexadecimal_here at s ≡ Value n to → InHexadecimal n at s to
unfolding hexadecimal_here
hexadecimal_written at [] n to e = let z : ◌≡◌ {A = ℕ} 0 1 = cc in absurd (omega arith)
hexadecimal_written at (byte ∷ s) n to e = go (ltb 15 (hex_digit_of byte)) refl e
  where
    go : (t : Bool) → ltb 15 (hex_digit_of byte) ≡ t → cond t NoNumber (more_hex_digits 3 (hex_digit_of byte) (at + 1) s) ≡ Value n to
        → InHexadecimal n at (byte ∷ s) to
    go true p e = let z : ◌≡◌ {A = ℕ} 0 1 = cc in absurd (omega arith)
    go false p e =
        let d : hex_digit_of byte ≤ 15 = ltb-false 15 (hex_digit_of byte) p in
        let m = hex_more_written 3 1 (hex_digit_of byte) (at + 1) s n to (omega arith) (omega arith) e in
        let first : hex_digits 1 (hex_digit_of byte) ≡ byte ∷ [] =
        hex_digit_alone (hex_digit_of byte) (omega arith) ∙ ap (λ (b : ℕ). b ∷ []) (sym (hex_byte_of byte d)) in
        let w : hex_digits m.count n ≡ byte ∷ m.more = m.whole ∙ ap (λ (x : List ℕ). x ++ m.more) first in
        let l : m.count ≡ suc (length m.more) = sym (hex_length m.count n) ∙ ap length w in
        record {
          count = m.count;
          least = omega (arith, l);
          most = m.most;
          room = m.room;
          rest = m.rest;
          split = rw w (ap (λ (x : List ℕ). byte ∷ x) m.split);
          behind = omega (arith, m.behind, l);
        }
