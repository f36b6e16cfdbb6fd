-- The words of a pattern: one for each variable; and words of which one is filled with zeros. Assumes nothing.
use mathlib.Core.Path.{◌≡◌, refl, sym, ◌∙◌, ap}
use mathlib.Core.Bool.{Bool, true}
use mathlib.Core.List.{List, ◌++◌, append_assoc}
use Prim.Native.Nat.{ℕ, ◌+◌, ◌-◌}
use native.Mathlib.Omega.{arith}
use lib.ListN.{length, take, drop, replicate, length-append, length-drop, take-append-drop}
use lib.Seq.{take_at, drop_at, take_all, length-take-le}
use Rattle.terms.specs.Table.{evened, same_word}
use Rattle.terms.proofs.Filled.{evened_by}
use Rattle.terms.proofs.Satisfies.{same-word, word_same}

-- The rows r and s as the sides of an equation, either left.
pub data Sides (r s : ℕ) : ℕ → ℕ → Type 0 where
  said : Sides r s r s
  turned : Sides r s s r

-- A word against one that is g bits shorter, either left: it is zeros and the shorter one.
module _ (g : ℕ) (x y : List ℕ) (size : length x ≡ length y + g) where
  even_long : evened x y ≡ x
  unfolding evened
  even_long = let e : length y - length x ≡ 0 = omega arith in rw e refl

  pub long_left : same_word (evened x y) (evened y x) ≡ same_word x (replicate g 0 ++ y)
  long_left = rw (even_long, evened_by g y x size) refl

  pub long_right : same_word (evened y x) (evened x y) ≡ same_word (replicate g 0 ++ y) x
  long_right = rw (even_long, evened_by g y x size) refl

-- What a test says, if it tells words equal.
pub record Tells (b : Bool) (x y : List ℕ) : Type 0 where
  pub equal : b ≡ true → x ≡ y
  pub met : x ≡ y → b ≡ true

pub tells : (b : Bool) (x y : List ℕ) → b ≡ same_word x y → Tells b x y
tells b x y e = record { equal = λ h. same-word x y (sym e ∙ h); met = λ h. e ∙ rw h (word_same y) }

pub tells_turned : (b : Bool) (x y : List ℕ) → b ≡ same_word y x → Tells b x y
tells_turned b x y e = record { equal = λ h. sym (same-word y x (sym e ∙ h)); met = λ h. e ∙ rw h (word_same y) }

-- Two variables of m and n bits.
module _ (m n : ℕ) where
  pub first_of_two : (a b : List ℕ) → length a ≡ m → take m (a ++ b) ≡ a
  first_of_two a b e = take_at a b m e

  pub second_of_two : (a b : List ℕ) → length a ≡ m → length b ≡ n → take n (drop (m + 0) (a ++ b)) ≡ b
  second_of_two a b e f = ap (take n) (drop_at a b (m + 0) (omega arith)) ∙ take_all n b (omega arith)

  pub two_words : (p : List ℕ) → length p ≡ m + (n + 0) → (a : List ℕ) × (b : List ℕ) × (length a ≡ m) × (length b ≡ n) × (p ≡ a ++ b)
  two_words p e = (take m p, drop m p, length-take-le m p (omega arith), omega (arith, length-drop m p), sym (take-append-drop m p))

-- Three variables of m, n and k bits.
module _ (m n k : ℕ) where
  pub second_of_three : (a b c : List ℕ) → length a ≡ m → length b ≡ n → take n (drop (m + 0) (a ++ (b ++ c))) ≡ b
  second_of_three a b c e f = ap (take n) (drop_at a (b ++ c) (m + 0) (omega arith)) ∙ take_at b c n f

  pub third_of_three : (a b c : List ℕ) → length a ≡ m → length b ≡ n → length c ≡ k → take k (drop (m + (n + 0)) (a ++ (b ++ c))) ≡ c
  third_of_three a b c e f h =
      ap (λ (p : List ℕ). take k (drop (m + (n + 0)) p)) (sym (append_assoc a b c))
      ∙ ap (take k) (drop_at (a ++ b) c (m + (n + 0)) (omega (arith, length-append a b)))
      ∙ take_all k c (omega arith)

  pub three_words : (p : List ℕ) → length p ≡ m + (n + (k + 0))
      → (a : List ℕ) × (b : List ℕ) × (c : List ℕ) × (length a ≡ m) × (length b ≡ n) × (length c ≡ k) × (p ≡ a ++ (b ++ c))
  three_words p e =
      let one = two_words m (n + (k + 0)) p (omega arith) in
      let two = two_words n k one.1 one.3 in
      (one.0, two.0, two.1, one.2, two.2, two.3, one.4 ∙ ap (λ (l : List ℕ). one.0 ++ l) two.4)
