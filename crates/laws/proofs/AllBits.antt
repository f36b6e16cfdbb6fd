-- Lists of bits: tested one by one, made of copies of one bit, side by side, and mapped.
use mathlib.Core.Path.{◌≡◌, refl, ap₂}
use mathlib.Core.Bool.{true, false}
use mathlib.Core.List.{List, [], ◌∷◌, ◌++◌, map}
use Prim.Native.Nat.{ℕ, zero, suc, ◌+◌, ◌<◌, ◌≤◌}
use native.Mathlib.Omega.{arith}
use native.Mathlib.Numerals.{add-one}
use lib.Dec.{leb}
use lib.ListN.{length, get_or, drop, replicate, drop_of_length-le}
use lib.Seq.{drop-cons}
use borrow.Author.Tests.{le-leb, lt-leb, leb-true}
use Rattle.laws.specs.Lists.{all_bits}
use Rattle.laws.proofs.Bools.{and_parts}

module _ (p : List ℕ) (i : ℕ) where
  pub bits_more : i < length p → get_or p i 0 ≤ 1 → all_bits (drop (i + 1) p) ≡ all_bits (drop i p)
  unfolding all_bits
  bits_more h l = rw (add-one, drop-cons p i 0 h, le-leb (get_or p i 0) 1 l)

  pub bits_broken : i < length p → 1 < get_or p i 0 → false ≡ all_bits (drop i p)
  unfolding all_bits
  bits_broken h l = rw (drop-cons p i 0 h, lt-leb (get_or p i 0) 1 l)

  pub bits_end : length p ≤ i → true ≡ all_bits (drop i p)
  unfolding all_bits
  bits_end h = rw (drop_of_length-le p h)

pub first_bit : (b : ℕ) (p : List ℕ) → all_bits (b ∷ p) ≡ true → (b ≤ 1) × (all_bits p ≡ true)
unfolding all_bits
first_bit b p h = let parts = and_parts (leb b 1) (all_bits p) h in (leb-true b 1 parts.0, parts.1)

pub bits_copies : (n b : ℕ) → b ≤ 1 → all_bits (replicate n b) ≡ true
unfolding all_bits
bits_copies zero b h = refl
bits_copies (suc n) b h = rw (le-leb b 1 h) (bits_copies n b h)

pub bits_append : (p q : List ℕ) → all_bits p ≡ true → all_bits q ≡ true → all_bits (p ++ q) ≡ true
unfolding all_bits
bits_append [] q h k = k
bits_append (b ∷ p) q h k = let parts = first_bit b p h in rw (le-leb b 1 parts.0) (bits_append p q parts.1 k)

-- what is the same of 0 and of 1 is the same of bits
pub bits_map : {A : Type 0} (f g : ℕ → A) → f 0 ≡ g 0 → f 1 ≡ g 1 → (p : List ℕ) → all_bits p ≡ true → map f p ≡ map g p
bits_map f g e₀ e₁ [] h = refl
bits_map {A} f g e₀ e₁ (b ∷ p) h = let k = first_bit b p h in ap₂ (λ (x : A) (l : List A). x ∷ l) (at b k.0) (bits_map f g e₀ e₁ p k.1)
  where
    at : (b : ℕ) → b ≤ 1 → f b ≡ g b
    at zero l = e₀
    at (suc zero) l = e₁
    at (suc (suc b)) l = absurd (omega arith)
