-- Masks: which bits a word test looks at. A mask of several bits is the masks of each, a mask of one bit is that bit, and a word
-- against another that is shifted up compares bits. Assumes nothing.
use mathlib.Core.Path.{◌≡◌, refl, sym, ◌∙◌, ap, ap₂}
use mathlib.Core.Bool.{Bool, true, false, ◌&&◌}
use Prim.Native.Nat.{ℕ, zero, suc, ◌+◌, ◌-◌, ◌*◌, ◌/◌, ◌%◌, ◌^◌, ◌≤◌, ◌<◌, min, max}
use native.Mathlib.Omega.{arith}
use native.Mathlib.Nat.{add-zero, mod-lt, zero-mul, zero-div}
use lib.Arith.{bin_ind}
use lib.Bits.{bit_and, bit_or, bit_xor, differ, and_step, or_step, xor_step, and_block, and_mask, and_zero_r, xor_shr}
use lib.Dec.{eqb}
use lib.Pow.{pow_pos, split, shl-shr, shr-shr}
use borrow.Author.Tests.{eqb-true, eq-eqb}
use Rattle.laws.proofs.Bools.{same_test, and_both, and_parts}
use Rattle.laws.proofs.Numbers.{eqb_turn}

-- ---- a mask of several bits

same : (a b c d : ℕ) → (a ≡ b → c ≡ d) → (c ≡ d → a ≡ b) → eqb a b ≡ eqb c d
same a b c d f g = same_test (eqb a b) (eqb c d) (λ h. eq-eqb c d (f (eqb-true a b h))) (λ h. eq-eqb a b (g (eqb-true c d h)))

-- a number is 0 exactly if two others are
both : (a b c : ℕ) → (a ≡ 0 → (b ≡ 0) × (c ≡ 0)) → (b ≡ 0 → c ≡ 0 → a ≡ 0) → eqb a 0 ≡ eqb b 0 && eqb c 0
both a b c f g =
    same_test (eqb a 0) (eqb b 0 && eqb c 0)
    (λ h. let e = f (eqb-true a 0 h) in and_both (eqb b 0) (eqb c 0) (eq-eqb b 0 e.0) (eq-eqb c 0 e.1))
    (λ h. let e = and_parts (eqb b 0) (eqb c 0) h in eq-eqb a 0 (g (eqb-true b 0 e.0) (eqb-true c 0 e.1)))

-- a digit of the one mask or of the other
digit_none : (a b c : ℕ) → eqb (min a (max b c)) 0 ≡ eqb (min a b) 0 && eqb (min a c) 0
digit_none a b c = both (min a (max b c)) (min a b) (min a c) (λ e. (omega arith, omega arith)) (λ e f. omega arith)

-- a number is 0 if its last digit is and what stands before it
last_none : (a d : ℕ) → eqb (a * 2 + d) 0 ≡ eqb a 0 && eqb d 0
last_none a d = both (a * 2 + d) a d (λ e. (omega arith, omega arith)) (λ e f. omega arith)

four : (a b c d : Bool) → (a && b) && (c && d) ≡ (a && c) && (b && d)
four true true c d = refl
four true false true d = refl
four true false false d = refl
four false b c d = refl

max_lt : (a b : ℕ) → max (a % 2) (b % 2) < 2
max_lt a b = omega arith

or_half : (m b : ℕ) → bit_or m b / 2 ≡ bit_or (m / 2) (b / 2)
or_half m b = omega (arith, or_step m b, max_lt m b)

or_last : (m b : ℕ) → bit_or m b % 2 ≡ max (m % 2) (b % 2)
or_last m b = omega (arith, or_step m b, max_lt m b)

and_none : (z m : ℕ) → eqb (bit_and z m) 0 ≡ eqb (bit_and (z / 2) (m / 2)) 0 && eqb (min (z % 2) (m % 2)) 0
and_none z m = ap (λ (n : ℕ). eqb n 0) (and_step z m) ∙ last_none (bit_and (z / 2) (m / 2)) (min (z % 2) (m % 2))

-- A mask of several bits: a word has none of them exactly if it has none of the ones and none of the others.
pub and-or_none : (z m b : ℕ) → eqb (bit_and z (bit_or m b)) 0 ≡ eqb (bit_and z m) 0 && eqb (bit_and z b) 0
and-or_none z =
    bin_ind (λ (n : ℕ). (m b : ℕ) → eqb (bit_and n (bit_or m b)) 0 ≡ eqb (bit_and n m) 0 && eqb (bit_and n b) 0) (λ m b. refl)
    (λ n ih m b.
    and_none n (bit_or m b)
    ∙ ap₂ (λ (x y : ℕ). eqb (bit_and (n / 2) x) 0 && eqb (min (n % 2) y) 0) (or_half m b) (or_last m b)
    ∙ ap₂ ◌&&◌ (ih (m / 2) (b / 2)) (digit_none (n % 2) (m % 2) (b % 2))
    ∙ four (eqb (bit_and (n / 2) (m / 2)) 0) (eqb (bit_and (n / 2) (b / 2)) 0) (eqb (min (n % 2) (m % 2)) 0) (eqb (min (n % 2) (b % 2)) 0)
    ∙ sym (ap₂ ◌&&◌ (and_none n m) (and_none n b)))
    z

-- ---- a mask of one bit

pub and_one : (z b : ℕ) → bit_and z (2 ^ b) ≡ z / 2 ^ b % 2 * 2 ^ b
and_one z b =
    let bit : 2 ^ b ≡ 1 * 2 ^ b + 0 = omega arith in
    ap₂ bit_and (sym (split z b)) bit
    ∙ and_block b (z / 2 ^ b) 1 (z % 2 ^ b) 0 (mod-lt z (pow_pos b)) (pow_pos b)
    ∙ ap₂ (λ (x y : ℕ). x * 2 ^ b + y) (and_mask (z / 2 ^ b) 1) (and_zero_r (z % 2 ^ b))
    ∙ add-zero (z / 2 ^ b % 2 * 2 ^ b)

-- A mask of one bit: a word does not have it exactly if that bit is 0.
pub and_one_none : (z b : ℕ) → eqb (bit_and z (2 ^ b)) 0 ≡ eqb (z / 2 ^ b % 2) 0
and_one_none z b = ap (λ (n : ℕ). eqb n 0) (and_one z b) ∙ go (z / 2 ^ b % 2)
  where
    go : (n : ℕ) → eqb (n * 2 ^ b) 0 ≡ eqb n 0
    go n = same (n * 2 ^ b) 0 n 0 (λ e. sym (shl-shr n b) ∙ ap (λ (m : ℕ). m / 2 ^ b) e ∙ zero-div (2 ^ b)) (λ e. rw (e, zero-mul))

-- ---- a word against one that is shifted up

differ_none : (a b : ℕ) → eqb (differ a b) 0 ≡ eqb a b
differ_none zero b = eqb_turn b 0
differ_none (suc a) zero = refl
differ_none (suc a) (suc b) = differ_none a b ∙ same a b (suc a) (suc b) (λ e. omega arith) (λ e. omega arith)

differ_lt : (a b : ℕ) → a < 2 → b < 2 → differ a b < 2
differ_lt zero b h k = k
differ_lt (suc a) zero h k = h
differ_lt (suc a) (suc b) h k = differ_lt a b (omega arith) (omega arith)

xor_last : (a b : ℕ) → bit_xor a b % 2 ≡ differ (a % 2) (b % 2)
xor_last a b = omega (arith, xor_step a b, differ_lt (a % 2) (b % 2) (omega arith) (omega arith))

-- bit b of a word that is shifted up by d
shifted_bit : (y d b : ℕ) → d ≤ b → y * 2 ^ d / 2 ^ b ≡ y / 2 ^ (b - d)
shifted_bit y d b h =
    let e : b ≡ d + (b - d) = omega arith in
    ap (λ (n : ℕ). y * 2 ^ d / 2 ^ n) e ∙ sym (shr-shr (y * 2 ^ d) d (b - d)) ∙ ap (λ (n : ℕ). n / 2 ^ (b - d)) (shl-shr y d)

-- The words differ at bit b or they do not: bit b of x, and bit b - d of y, which is shifted up by d.
pub xor_bit : (x y d b : ℕ) → d ≤ b → eqb (bit_xor x (y * 2 ^ d) / 2 ^ b % 2) 0 ≡ eqb (x / 2 ^ b % 2) (y / 2 ^ (b - d) % 2)
xor_bit x y d b h =
    ap (λ (n : ℕ). eqb (n % 2) 0) (xor_shr x (y * 2 ^ d) b)
    ∙ ap (λ (n : ℕ). eqb n 0) (xor_last (x / 2 ^ b) (y * 2 ^ d / 2 ^ b))
    ∙ differ_none (x / 2 ^ b % 2) (y * 2 ^ d / 2 ^ b % 2)
    ∙ ap (λ (n : ℕ). eqb (x / 2 ^ b % 2) (n % 2)) (shifted_bit y d b h)

-- An equal row of one bit.
pub equal_bit : (x y d b : ℕ) → d ≤ b → eqb (bit_and (bit_xor x (y * 2 ^ d)) (2 ^ b)) 0 ≡ eqb (x / 2 ^ b % 2) (y / 2 ^ (b - d) % 2)
equal_bit x y d b h = and_one_none (bit_xor x (y * 2 ^ d)) b ∙ xor_bit x y d b h
