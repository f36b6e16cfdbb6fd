-- The bits in which numbers and words differ: (e) they are the ones of the difference, at every width; at most all, none exactly if the words are
-- equal, the same the other way round. Assumes nothing.
use mathlib.Core.Path.{◌≡◌, refl, sym, ◌∙◌, ap, ap₂}
use mathlib.Core.Bool.{Bool, true, false, cond}
use mathlib.Core.List.{List, [], ◌∷◌, ◌++◌}
use Prim.Native.Nat.{ℕ, zero, suc, ◌+◌, ◌*◌, ◌/◌, ◌%◌, ◌^◌, ◌<◌, ◌≤◌}
use native.Mathlib.Omega.{arith}
use lib.Bits.{bit_xor, xor_step, differ}
use lib.Count.{ones, ones_step}
use lib.Dec.{eqb}
use lib.ListN.{length}
use borrow.Author.Tests.{eqb-true, eq-eqb}
use Rattle.laws.specs.Binary.{binary, bits_number}
use Rattle.laws.proofs.Binary.{binary-length, written}
use Rattle.laws.proofs.Numbers.{eqb_turn}
use Rattle.recordings.specs.Recordings.{differing_in, differing_bits, differing_words}
use Rattle.recordings.specs.Compared.{Sixteen}

-- ---- (e) the ones of the difference
-- a bit more at the low end
behind : (xs ys : List ℕ) (x y : ℕ) → length xs ≡ length ys
    → differing_in (xs ++ (x ∷ [])) (ys ++ (y ∷ [])) ≡ differing_in (x ∷ []) (y ∷ []) + differing_in xs ys
unfolding differing_in
behind [] [] x y e = omega arith
behind [] (y' ∷ ys) x y e = absurd (omega arith)
behind (x' ∷ xs) [] x y e = absurd (omega arith)
behind (x' ∷ xs) (y' ∷ ys) x y e = omega (arith, behind xs ys x y (omega arith))

one_bit : (x y : ℕ) → x < 2 → y < 2 → (differing_in (x ∷ []) (y ∷ []) ≡ differ x y) × (differ x y < 2)
unfolding differing_in
one_bit zero zero l k = (refl, omega arith)
one_bit zero (suc zero) l k = (refl, omega arith)
one_bit (suc zero) zero l k = (refl, omega arith)
one_bit (suc zero) (suc zero) l k = (refl, omega arith)
one_bit zero (suc (suc y)) l k = absurd (omega arith)
one_bit (suc zero) (suc (suc y)) l k = absurd (omega arith)
one_bit (suc (suc x)) y l k = absurd (omega arith)

none : ones (bit_xor 0 0) ≡ 0
unfolding ones
none = refl

pub ones_are : (w a b : ℕ) → a < 2 ^ w → b < 2 ^ w → differing_bits w a b ≡ ones (bit_xor a b)
unfolding differing_bits binary differing_in
ones_are zero a b l k =
    let x : a ≡ 0 = omega arith in
    let y : b ≡ 0 = omega arith in
    rw (x, y) (sym none)
ones_are (suc w) a b l k =
    let d = one_bit (a % 2) (b % 2) (omega arith) (omega arith) in
    let s = xor_step a b in
    let half : bit_xor a b / 2 ≡ bit_xor (a / 2) (b / 2) = omega (arith, s, d.1) in
    let low : bit_xor a b % 2 ≡ differ (a % 2) (b % 2) = omega (arith, s, d.1) in
    let more = ones_are w (a / 2) (b / 2) (omega arith) (omega arith) in
    behind (binary w (a / 2)) (binary w (b / 2)) (a % 2) (b % 2) (binary-length w (a / 2) ∙ sym (binary-length w (b / 2)))
    ∙ ap₂ ◌+◌ (d.0 ∙ sym low) (more ∙ ap ones (sym half))
    ∙ sym (ones_step (bit_xor a b))

-- ---- at most all, none where all are equal, the same the other way round
pub one_most : (b : Bool) → cond {A = ℕ} b 0 1 ≤ 1
one_most true = omega arith
one_most false = omega arith

in_most : (xs ys : List ℕ) → differing_in xs ys ≤ length xs
unfolding differing_in
in_most [] ys = omega arith
in_most (x ∷ xs) [] = omega arith
in_most (x ∷ xs) (y ∷ ys) = omega (arith, in_most xs ys, one_most (eqb x y))

in_same : (xs : List ℕ) → differing_in xs xs ≡ 0
unfolding differing_in
in_same [] = refl
in_same (x ∷ xs) = rw (eq-eqb x x refl) (omega (arith, in_same xs))

in_none : (xs ys : List ℕ) → length xs ≡ length ys → differing_in xs ys ≡ 0 → xs ≡ ys
unfolding differing_in
in_none [] [] l e = refl
in_none [] (y ∷ ys) l e = absurd (omega arith)
in_none (x ∷ xs) [] l e = absurd (omega arith)
in_none (x ∷ xs) (y ∷ ys) l e = go (eqb x y) refl e (in_none xs ys (omega arith))
  where
    go : (b : Bool) → eqb x y ≡ b → cond b 0 1 + differing_in xs ys ≡ 0 → (differing_in xs ys ≡ 0 → xs ≡ ys) → x ∷ xs ≡ y ∷ ys
    go true h z more = ap₂ (λ (v : ℕ) (vs : List ℕ). v ∷ vs) (eqb-true x y h) (more (omega arith))
    go false h z more = absurd (omega arith)

in-turn : (xs ys : List ℕ) → differing_in xs ys ≡ differing_in ys xs
unfolding differing_in
in-turn [] [] = refl
in-turn [] (y ∷ ys) = refl
in-turn (x ∷ xs) [] = refl
in-turn (x ∷ xs) (y ∷ ys) = rw (eqb_turn x y, in-turn xs ys) refl

-- ---- two numbers of w bits
module _ (w a b : ℕ) where
  pub bits_most : differing_bits w a b ≤ w
  unfolding differing_bits
  bits_most = omega (arith, in_most (binary w a) (binary w b), binary-length w a)

  pub bits_none : a < 2 ^ w → b < 2 ^ w → differing_bits w a b ≡ 0 → a ≡ b
  unfolding differing_bits
  bits_none l k e =
      sym (written w a l).number ∙ ap bits_number (in_none (binary w a) (binary w b) (binary-length w a ∙ sym (binary-length w b)) e) ∙ (written w b k).number

  pub bits_turn : differing_bits w a b ≡ differing_bits w b a
  unfolding differing_bits
  bits_turn = in-turn (binary w a) (binary w b)

-- ---- words
pub words_most : (xs ys : List ℕ) → differing_words xs ys ≤ 16 * length xs
unfolding differing_words
words_most [] ys = omega arith
words_most (x ∷ xs) [] = omega arith
words_most (x ∷ xs) (y ∷ ys) = omega (arith, words_most xs ys, bits_most 16 x y)

pub words_same : (xs : List ℕ) → differing_words xs xs ≡ 0
unfolding differing_words differing_bits
words_same [] = refl
words_same (x ∷ xs) = omega (arith, words_same xs, in_same (binary 16 x))

pub words_turn : (xs ys : List ℕ) → differing_words xs ys ≡ differing_words ys xs
unfolding differing_words
words_turn [] [] = refl
words_turn [] (y ∷ ys) = refl
words_turn (x ∷ xs) [] = refl
words_turn (x ∷ xs) (y ∷ ys) = rw (bits_turn 16 x y, words_turn xs ys) refl

-- words of 16 bits
pub words_none : (xs ys : List ℕ) → length xs ≡ length ys → Sixteen xs → Sixteen ys
    → differing_words xs ys ≡ 0 → xs ≡ ys
unfolding differing_words
words_none [] [] l h k e = refl
words_none [] (y ∷ ys) l h k e = absurd (omega arith)
words_none (x ∷ xs) [] l h k e = absurd (omega arith)
words_none (x ∷ xs) (y ∷ ys) l h k e =
    ap₂ (λ (z : ℕ) (zs : List ℕ). z ∷ zs) (bits_none 16 x y (h 0) (k 0) (omega arith)) (words_none xs ys (omega arith) (λ i. h (suc i)) (λ i. k (suc i)) (omega arith))
