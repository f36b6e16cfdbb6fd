-- Statements about what goes with a kind are shown kind by kind, or two ways: a variable or any other row, an equation or any
-- other row.
use mathlib.Core.Path.{◌≡◌, refl, sym, subst}
use mathlib.Core.Logic.{◌⊎◌, inl, inr, ⊎_elim}
use Prim.Native.Nat.{ℕ, zero, suc, ◌≤◌}
use native.Mathlib.Omega.{arith}
use Rattle.terms.specs.declared.Row.{Row}
use Rattle.terms.specs.Table.{by_kind, if_variable, if_equation, bits_in}
use Rattle.laws.proofs.Numbers.{lt_or_le, dec_eq}

-- a kind of a fixed word
abbrev pub Fixed : ℕ → Type 0
Fixed k = (k ≡ 1) ⊎ (5 ≤ k)

pub each_kind : {A : Type 0} (k : ℕ) (x : A) {v f j c e : A}
    → (k ≡ 0 → x ≡ v) → (k ≡ 1 → x ≡ f) → (k ≡ 2 → x ≡ j) → (k ≡ 3 → x ≡ c) → (k ≡ 4 → x ≡ e) → (5 ≤ k → x ≡ f)
    → x ≡ by_kind k v f j c e
unfolding by_kind
each_kind zero x h₀ h₁ h₂ h₃ h₄ h₅ = h₀ refl
each_kind (suc zero) x h₀ h₁ h₂ h₃ h₄ h₅ = h₁ refl
each_kind (suc (suc zero)) x h₀ h₁ h₂ h₃ h₄ h₅ = h₂ refl
each_kind (suc (suc (suc zero))) x h₀ h₁ h₂ h₃ h₄ h₅ = h₃ refl
each_kind (suc (suc (suc (suc zero)))) x h₀ h₁ h₂ h₃ h₄ h₅ = h₄ refl
each_kind (suc (suc (suc (suc (suc k))))) x h₀ h₁ h₂ h₃ h₄ h₅ = h₅ (omega arith)

pub kind_same : {A : Type 0} (k : ℕ) {v f j c e v' f' j' c' e' : A}
    → (k ≡ 0 → v ≡ v') → (Fixed k → f ≡ f') → (k ≡ 2 → j ≡ j') → (k ≡ 3 → c ≡ c') → (k ≡ 4 → e ≡ e')
    → by_kind k v f j c e ≡ by_kind k v' f' j' c' e'
unfolding by_kind
kind_same zero h₀ h₁ h₂ h₃ h₄ = h₀ refl
kind_same (suc zero) h₀ h₁ h₂ h₃ h₄ = h₁ (inl refl)
kind_same (suc (suc zero)) h₀ h₁ h₂ h₃ h₄ = h₂ refl
kind_same (suc (suc (suc zero))) h₀ h₁ h₂ h₃ h₄ = h₃ refl
kind_same (suc (suc (suc (suc zero)))) h₀ h₁ h₂ h₃ h₄ = h₄ refl
kind_same (suc (suc (suc (suc (suc k))))) h₀ h₁ h₂ h₃ h₄ = h₁ (inr (omega arith))

pub fixed_kind : {A : Type 0} (k : ℕ) (v f j c e : A) → Fixed k → by_kind k v f j c e ≡ f
unfolding by_kind
fixed_kind k v f j c e (inl h) = rw h
fixed_kind zero v f j c e (inr h) = absurd (omega arith)
fixed_kind (suc zero) v f j c e (inr h) = refl
fixed_kind (suc (suc zero)) v f j c e (inr h) = absurd (omega arith)
fixed_kind (suc (suc (suc zero))) v f j c e (inr h) = absurd (omega arith)
fixed_kind (suc (suc (suc (suc zero)))) v f j c e (inr h) = absurd (omega arith)
fixed_kind (suc (suc (suc (suc (suc k))))) v f j c e (inr h) = refl

-- a kind, decided
pub data KindOf (k : ℕ) : Type 0 where
  is_variable : k ≡ 0 → KindOf k
  is-fixed : Fixed k → KindOf k
  is_concat : k ≡ 2 → KindOf k
  is_extract : k ≡ 3 → KindOf k
  is_equation : k ≡ 4 → KindOf k

pub kind-of : (k : ℕ) → KindOf k
kind-of zero = is_variable refl
kind-of (suc zero) = is-fixed (inl refl)
kind-of (suc (suc zero)) = is_concat refl
kind-of (suc (suc (suc zero))) = is_extract refl
kind-of (suc (suc (suc (suc zero)))) = is_equation refl
kind-of (suc (suc (suc (suc (suc k))))) = is-fixed (inr (omega arith))

-- a row is an equation or not
abbrev pub Equation : Row → Type 0
Equation r = r.kind ≡ 4

pub equation_or-not : (r : Row) → Equation r ⊎ (Equation r → ⊥)
equation_or-not r = dec_eq r.kind 4

module _ {A : Type 0} (r : Row) (x y : A) where
  -- what goes with a variable, and with any other row
  pub of_variable : r.kind ≡ 0 → if_variable r x y ≡ x
  unfolding by_kind
  of_variable e = rw e

  pub of_other : (r.kind ≡ 0 → ⊥) → if_variable r x y ≡ y
  of_other h = sym (each_kind r.kind y (λ e. absurd (h e)) (λ e. refl) (λ e. refl) (λ e. refl) (λ e. refl) (λ e. refl))

  -- what goes with an equation, and with a term
  pub of_equation : Equation r → if_equation r x y ≡ x
  unfolding by_kind
  of_equation e = rw e

  pub of_term : (Equation r → ⊥) → if_equation r x y ≡ y
  of_term h = sym (each_kind r.kind y (λ e. refl) (λ e. refl) (λ e. refl) (λ e. refl) (λ e. absurd (h e)) (λ e. refl))

  -- what is shown of both is shown of what goes with the row
  pub by_variable : (P : A → Type 0) → (r.kind ≡ 0 → P x) → ((r.kind ≡ 0 → ⊥) → P y) → P (if_variable r x y)
  by_variable P h₀ h₁ =
      ⊎_elim
      (λ l. let e : r.kind ≡ 0 = omega arith in subst P (sym (of_variable e)) (h₀ e))
      (λ l. let h : r.kind ≡ 0 → ⊥ = λ e. absurd (omega arith) in subst P (sym (of_other h)) (h₁ h))
      (lt_or_le r.kind 1)

-- the variable bits of a row
pub bits_variable : (r : Row) → r.kind ≡ 0 → bits_in r ≡ r.a
unfolding bits_in
bits_variable r e = of_variable r r.a 0 e

pub bits_other : (r : Row) → (r.kind ≡ 0 → ⊥) → bits_in r ≡ 0
unfolding bits_in
bits_other r h = of_other r r.a 0 h
