-- Rows of four numbers, written and read again; tests below a bound; the bit of a place. Assumes nothing.
use mathlib.Core.Path.{◌≡◌, refl, ◌∙◌}
use mathlib.Core.Bool.{Bool}
use mathlib.Core.List.{List}
use mathlib.Core.Logic.{◌⊎◌, inl, inr, ◌≢◌}
use Prim.Native.Nat.{ℕ, zero, suc, ◌+◌, ◌-◌, ◌/◌, ◌%◌, ◌^◌, ◌≤◌, ◌<◌}
use native.Mathlib.Omega.{arith}
use lib.ListN.{length, get_or, set, length-set}
use lib.Seq.{get_or-set_same, get_or-set_other}
use Rattle.laws.specs.Buffers.{set_four}
use Rattle.laws.specs.Lists.{below}
use Rattle.groups.specs.inner.Places.{source_bit}

pub place_bit : (window : List ℕ) (i : ℕ) → source_bit window (suc (suc i)) ≡ get_or window (i / 16) 0 / 2 ^ (15 - i % 16) % 2
unfolding source_bit
place_bit window i = refl

-- four numbers written, read again, and the others
module _ (plan : List ℕ) (at a b c d : ℕ) where
  pub four_other : (i : ℕ) → (i < at) ⊎ (at + 4 ≤ i) → get_or (set_four plan at a b c d) i 0 ≡ get_or plan i 0
  unfolding set_four
  four_other i h =
      let l = other h in
      get_or-set_other (set (set (set plan at a) (at + 1) b) (at + 2) c) (at + 3) i d 0 l.1.1.1
      ∙ get_or-set_other (set (set plan at a) (at + 1) b) (at + 2) i c 0 l.1.1.0
      ∙ get_or-set_other (set plan at a) (at + 1) i b 0 l.1.0
      ∙ get_or-set_other plan at i a 0 l.0
    where
      other : (i < at) ⊎ (at + 4 ≤ i) → (i ≢ at) × ((i ≢ at + 1) × ((i ≢ at + 2) × (i ≢ at + 3)))
      other (inl l) = (λ z. omega arith, (λ z. omega arith, (λ z. omega arith, λ z. omega arith)))
      other (inr l) = (λ z. omega arith, (λ z. omega arith, (λ z. omega arith, λ z. omega arith)))

  module _ (h : at + 4 ≤ length plan) where
    pub four_first : get_or (set_four plan at a b c d) at 0 ≡ a
    unfolding set_four
    four_first =
        get_or-set_other (set (set (set plan at a) (at + 1) b) (at + 2) c) (at + 3) at d 0 (λ z. omega arith)
        ∙ get_or-set_other (set (set plan at a) (at + 1) b) (at + 2) at c 0 (λ z. omega arith)
        ∙ get_or-set_other (set plan at a) (at + 1) at b 0 (λ z. omega arith)
        ∙ get_or-set_same plan at a 0 (omega arith)

    pub four_second : get_or (set_four plan at a b c d) (at + 1) 0 ≡ b
    unfolding set_four
    four_second =
        get_or-set_other (set (set (set plan at a) (at + 1) b) (at + 2) c) (at + 3) (at + 1) d 0 (λ z. omega arith)
        ∙ get_or-set_other (set (set plan at a) (at + 1) b) (at + 2) (at + 1) c 0 (λ z. omega arith)
        ∙ get_or-set_same (set plan at a) (at + 1) b 0 (simp length-set (omega arith))

    pub four_third : get_or (set_four plan at a b c d) (at + 2) 0 ≡ c
    unfolding set_four
    four_third =
        get_or-set_other (set (set (set plan at a) (at + 1) b) (at + 2) c) (at + 3) (at + 2) d 0 (λ z. omega arith)
        ∙ get_or-set_same (set (set plan at a) (at + 1) b) (at + 2) c 0 (simp length-set (omega arith))

    pub four_fourth : get_or (set_four plan at a b c d) (at + 3) 0 ≡ d
    unfolding set_four
    four_fourth = get_or-set_same (set (set (set plan at a) (at + 1) b) (at + 2) c) (at + 3) d 0 (simp length-set (omega arith))

-- tests below a bound that are the same
pub below_same : (n : ℕ) (f g : ℕ → Bool) → ((i : ℕ) → i < n → f i ≡ g i) → below n f ≡ below n g
unfolding below
below_same zero f g h = refl
below_same (suc n) f g h = rw (h n (omega arith), below_same n f g (λ i l. h i (omega arith)))
