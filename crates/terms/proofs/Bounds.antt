-- Where widths and bounds end: a variable of 1 to 1,024 bits is accepted and any other is not, and an extraction from
-- it may reach up to its highest bit and not past it. Assumes nothing.
use mathlib.Core.Path.{◌≡◌, refl, ◌∙◌}
use mathlib.Core.Bool.{Bool, true, false, not, ◌||◌, cond, or-true}
use mathlib.Core.List.{[], ◌∷◌}
use mathlib.Core.Logic.{◌⊎◌, inl, inr}
use Prim.Native.Nat.{ℕ, ◌+◌, ◌-◌, ◌<◌, ◌≤◌}
use native.Mathlib.Omega.{arith}
use lib.Dec.{ltb}
use borrow.Author.Tests.{lt-ltb, le-ltb, ne_eqb}
use Rattle.std.specs.Prelude.{Err}
use Rattle.terms.specs.declared.Fault.TheVariants.{Width, Bounds}
use Rattle.terms.specs.Faults.{Accepted, is_accepted, first_fault}
use Rattle.terms.proofs.Computed.{fault_computed}

-- A variable of 1 to 1,024 bits is accepted.
pub variable_accepted : (w : ℕ) → 1 ≤ w → w ≤ 1024 → first_fault (0 ∷ w ∷ 0 ∷ 0 ∷ []) ≡ Accepted
unfolding fault_computed
variable_accepted w l h = rw (ne_eqb w 0 (λ e. omega arith), le-ltb 1024 w h, le-ltb 4096 (w + 0) (omega arith))

-- A variable of no bits, or of more than 1,024, is refused at its row for its width.
pub variable_refused : (w : ℕ) → (w ≡ 0) ⊎ (1024 < w) → first_fault (0 ∷ w ∷ 0 ∷ 0 ∷ []) ≡ Err (Width 0)
unfolding fault_computed
variable_refused w (inl e) = rw e
variable_refused w (inr h) = rw (lt-ltb 1024 w h, or-true)

last-row : (b : Bool) → cond (is_accepted (cond b (Err (Bounds 1)) Accepted)) Accepted (cond b (Err (Bounds 1)) Accepted) ≡ cond b (Err (Bounds 1)) Accepted
last-row true = refl
last-row false = refl

-- an extraction of bits b down to c from a variable: the bounds' test decides
cut_fault : (w b c : ℕ) → 1 ≤ w → w ≤ 1024
    → first_fault (0 ∷ w ∷ 0 ∷ 0 ∷ 3 ∷ 0 ∷ b ∷ c ∷ []) ≡ cond (not (ltb b w) || ltb b c) (Err (Bounds 1)) Accepted
unfolding fault_computed
cut_fault w b c l h = rw (ne_eqb w 0 (λ e. omega arith), le-ltb 1024 w h, le-ltb 4096 (w + 0) (omega arith)) (last-row (not (ltb b w) || ltb b c))

-- An extraction from a variable is accepted where its bounds are in order and below the width.
pub cut_accepted : (w b c : ℕ) → 1 ≤ w → w ≤ 1024 → c ≤ b → b < w → first_fault (0 ∷ w ∷ 0 ∷ 0 ∷ 3 ∷ 0 ∷ b ∷ c ∷ []) ≡ Accepted
cut_accepted w b c l h m n = cut_fault w b c l h ∙ rw (lt-ltb b w n, le-ltb b c m)

-- An extraction from a variable is refused at its row where its high bound is not below the width, or its low bound is above.
pub cut_refused : (w b c : ℕ) → 1 ≤ w → w ≤ 1024 → (w ≤ b) ⊎ (b < c) → first_fault (0 ∷ w ∷ 0 ∷ 0 ∷ 3 ∷ 0 ∷ b ∷ c ∷ []) ≡ Err (Bounds 1)
cut_refused w b c l h (inl m) = cut_fault w b c l h ∙ rw (le-ltb b w m)
cut_refused w b c l h (inr m) = cut_fault w b c l h ∙ rw (lt-ltb b c m, or-true)

-- An extraction of all bits of a variable is accepted.
pub whole_cut : (w : ℕ) → 1 ≤ w → w ≤ 1024 → first_fault (0 ∷ w ∷ 0 ∷ 0 ∷ 3 ∷ 0 ∷ (w - 1) ∷ 0 ∷ []) ≡ Accepted
whole_cut w l h = cut_accepted w (w - 1) 0 l h (omega arith) (omega arith)

-- An extraction that reaches one bit past a variable's highest is refused at its row for its bounds.
pub cut_past : (w : ℕ) → 1 ≤ w → w ≤ 1024 → first_fault (0 ∷ w ∷ 0 ∷ 0 ∷ 3 ∷ 0 ∷ w ∷ 0 ∷ []) ≡ Err (Bounds 1)
cut_past w l h = cut_refused w w 0 l h (inl (omega arith))
