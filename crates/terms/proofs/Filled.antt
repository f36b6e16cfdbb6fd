-- Words brought to the length of one another (document 02, (iii)): they are equal exactly if their numbers are, they have the greater length,
-- and filling and reading bits may be exchanged. Assumes nothing.
use mathlib.Core.Path.{◌≡◌, refl, sym, ◌∙◌, ap, ap₂}
use mathlib.Core.Bool.{true}
use mathlib.Core.List.{List, ◌++◌, map}
use Prim.Native.Nat.{ℕ, zero, suc, ◌+◌, ◌-◌, max}
use native.Mathlib.Omega.{arith}
use lib.ListN.{length, take, drop, replicate, length-append, length-replicate, length-map, take-append-drop}
use lib.Seq.{take-append_seam, drop-append_seam}
use Rattle.laws.specs.Lists.{all_bits}
use Rattle.laws.specs.Binary.{binary, bits_number}
use Rattle.laws.proofs.AllBits.{bits_copies, bits_append}
use Rattle.laws.proofs.Binary.{read}
use Rattle.laws.proofs.Lists.{map-append, map-replicate}
use Rattle.terms.specs.Table.{same_word, evened}
use Rattle.terms.specs.Acceptance.{Exactly}
use Rattle.terms.specs.Filled.{EqualNumbers, Evened, TopZero}

-- zeros at the high end leave the number as it is
zeros_number : (n : ℕ) (x : List ℕ) → bits_number (replicate n 0 ++ x) ≡ bits_number x
unfolding bits_number
zeros_number zero x = refl
zeros_number (suc n) x = omega (arith, zeros_number n x)

zeros_bits : (n : ℕ) (x : List ℕ) → all_bits x ≡ true → all_bits (replicate n 0 ++ x) ≡ true
zeros_bits n x h = bits_append (replicate n 0) x (bits_copies n 0 (omega arith)) h

-- words of bits that have one length and one number are one word
number_word : (x y : List ℕ) → all_bits x ≡ true → all_bits y ≡ true → length x ≡ length y → bits_number x ≡ bits_number y → x ≡ y
number_word x y hx hy l n = sym (read x hx).again ∙ ap₂ binary l n ∙ (read y hy).again

-- a word brought to the length of another has the greater of the two lengths
evened_wide : (x y : List ℕ) → length (evened x y) ≡ max (length x) (length y)
unfolding evened
evened_wide x y = simp (length-append, length-replicate) (omega arith)

-- and both have one length
pub evened-length : (x y : List ℕ) → length (evened x y) ≡ length (evened y x)
evened-length x y = omega (arith, evened_wide x y, evened_wide y x)

-- Words of bits, each brought to the length of the other, are equal exactly if they are equal as binary numbers.
pub equal_numbers : (x y : List ℕ) → all_bits x ≡ true → all_bits y ≡ true → EqualNumbers x y
unfolding evened
equal_numbers x y hx hy =
    let m = length y - length x in
    let n = length x - length y in
    record {
      to = λ e. sym (zeros_number m x) ∙ ap bits_number e ∙ zeros_number n y;
      of = λ e.
          number_word (replicate m 0 ++ x) (replicate n 0 ++ y) (zeros_bits m x hx) (zeros_bits n y hy) (evened-length x y)
          (zeros_number m x ∙ e ∙ sym (zeros_number n y));
    }

-- What a word is once it is brought to the length of another.
pub evened-word : (x y : List ℕ) → Evened x y
unfolding evened
evened-word x y =
    record {
      wide = evened_wide x y;
      number = zeros_number (length y - length x) x;
      same = λ h. let none : length y - length x ≡ 0 = omega arith in rw none;
    }

-- the word is as it was if the other is as long
pub evened_even : (x y : List ℕ) → length x ≡ length y → evened x y ≡ x
evened_even x y e = (evened-word x y).same (omega arith)

-- so that words of one length are compared as they are
pub same_even : (x y : List ℕ) → length x ≡ length y → same_word (evened x y) (evened y x) ≡ same_word x y
same_even x y e = ap₂ same_word (evened_even x y e) (evened_even y x (sym e))

-- bits may be read before they are filled or after it, where 0 is read as 0
pub evened-map : (f : ℕ → ℕ) → f 0 ≡ 0 → (x y : List ℕ) → evened (map f x) (map f y) ≡ map f (evened x y)
unfolding evened
evened-map f e x y =
    let n = length y - length x in
    rw (length-map, length-map)
    (ap (λ (b : ℕ). replicate n b ++ map f x) (sym e) ∙ ap (λ (l : List ℕ). l ++ map f x) (sym (map-replicate f n 0)) ∙ sym (map-append f (replicate n 0) x))

-- a word that lacks g bits is brought to the length by g zeros
pub evened_by : (g : ℕ) (x y : List ℕ) → length y ≡ length x + g → evened x y ≡ replicate g 0 ++ x
unfolding evened
evened_by g x y e = let n : length y - length x ≡ g = omega arith in rw n

-- a word is another one behind g zeros exactly if its top g bits are 0 and the others are those of the other one
pub top_zero : (g : ℕ) (x y : List ℕ) → Exactly (y ≡ replicate g 0 ++ x) (TopZero g y x)
top_zero g x y =
    let l : length {A = ℕ} (replicate g 0) ≡ g = length-replicate g 0 in
    record {
      to = λ e.
          record {
            top = ap₂ take (sym l) e ∙ take-append_seam (replicate g 0) x;
            rest = ap₂ drop (sym l) e ∙ drop-append_seam (replicate g 0) x;
          };
      of = λ h. sym (take-append-drop g y) ∙ ap₂ (λ (a b : List ℕ). a ++ b) h.top h.rest;
    }
