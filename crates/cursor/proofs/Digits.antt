-- What is read of a number where no digit stands: another byte, or the text has ended. Assumes nothing.
use mathlib.Core.Path.{◌≡◌, refl}
use mathlib.Core.Bool.{Bool, true, false}
use mathlib.Core.List.{List}
use Prim.Native.Nat.{ℕ, ◌+◌, ◌<◌, ◌≤◌}
use native.Mathlib.Omega.{arith}
use lib.Dec.{ltb}
use lib.ListN.{length, get_or, drop}
use borrow.Author.Tests.{ltb-true, ltb-false}
use Rattle.sheets.specs.Text.{Value, NoNumber, digit_of, hex_digit_of, decimal_at, hexadecimal_at, more_digits, more_hex_digits}
use Rattle.sheets.proofs.Numbers.{past, not_digit, zero_last, zero_other, ends, stops, hex_past, hex_not_digit, hex_ends, hex_stops}

either : {P : Type 0} (s : List ℕ) (i : ℕ) → (i < length s → P) → (length s ≤ i → P) → P
either {P} s i within beyond = go (ltb i (length s)) refl
  where
    go : (t : Bool) → ltb i (length s) ≡ t → P
    go true e = within (ltb-true i (length s) e)
    go false e = beyond (ltb-false i (length s) e)

pub no_number : (s : List ℕ) (at : ℕ) → 10 ≡ digit_of (get_or s at 0) → NoNumber ≡ decimal_at s at
no_number s at e = either s at (λ l. not_digit s at l 10 e (omega arith)) (λ l. past s at l)

pub zero_alone : (s : List ℕ) (at d : ℕ) → at < length s → d ≡ digit_of (get_or s at 0) → d ≡ 0 → 10 ≡ digit_of (get_or s (at + 1) 0)
    → Value 0 (at + 1) ≡ decimal_at s at
zero_alone s at d l e z n = either s (at + 1) (λ k. zero_other s at l d e z k (omega (arith, n))) (λ k. zero_last s at l d e z k)

pub digits_end : (s : List ℕ) (v i : ℕ) → 10 ≡ digit_of (get_or s i 0) → Value v i ≡ more_digits v i (drop i s)
digits_end s v i e = either s i (λ l. stops s v i l 10 e (omega arith)) (λ l. ends s v i l)

pub no_hex : (s : List ℕ) (at : ℕ) → 16 ≡ hex_digit_of (get_or s at 0) → NoNumber ≡ hexadecimal_at s at
no_hex s at e = either s at (λ l. hex_not_digit s at l 16 e (omega arith)) (λ l. hex_past s at l)

pub hex_end : (s : List ℕ) (m v i : ℕ) → 16 ≡ hex_digit_of (get_or s i 0) → Value v i ≡ more_hex_digits m v i (drop i s)
hex_end s m v i e = either s i (λ l. hex_stops s m v i l 16 e (omega arith)) (λ l. hex_ends s m v i l)
