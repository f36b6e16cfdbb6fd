-- Theorem `same_solver` (request (xiii)): for every table, answer table and work area the solver in whole pieces and crate solver return
-- the same record and leave the same answer table and the same work area. Both require nothing. Assumes nothing.
use mathlib.Core.Path.{◌≡◌, refl, sym, ◌∙◌}
use mathlib.Core.List.{List}
use Prim.Native.Nat.{ℕ}
use lib.ListN.{length}
use seplogic.Ra.Ura.{Ura}
use base.Logic.{SProp, ent, id⊢, via, fst∗, snd∗}
use prog.Memory.{Memory}
use prog.Routine.{Routine}
use types.Logic.{Logic}
use contract.Lifetimes.{Lfts}
use contract.Monad.{Fun, fact_i, fact_use}
use contract.Notation.{connectives}
use denote.Triple.Entry.{Args, Res}
use denote.Triple.Clauses.{AtExit}
use Rattle.terms.specs.declared.Record.{Record}
use Rattle.answers.specs.Solve.{solve_record, answer_after, work_after}
use Rattle.piecewise.specs.Same.{Says, Same}
use Rattle.solver.specs.contracts.solve as bits
use Rattle.piecewise.specs.contracts.solve as pieces

-- two such results of the same input are the same
pub says_same : (table answer work : List ℕ) (r r' : Record) (answer₁ answer₂ work₁ work₂ : List ℕ) → Says table answer work r answer₁ work₁ → Says table answer work r' answer₂ work₂
    → Same r r' answer₁ answer₂ work₁ work₂
says_same table answer work r r' answer₁ answer₂ work₁ work₂ s t =
    record { record_same = s.record_is ∙ sym t.record_is; answer_same = s.answer_is ∙ sym t.answer_is; work_same = s.work_is ∙ sym t.work_is }

module _ {M : Type 1} {𝓤 : Ura M} (𝓛 : Logic 𝓤) (mem : Memory → SProp 𝓤) (run : Routine → Fun 𝓤) where
  open connectives 𝓤 use {⌜◌⌝, ◌∗◌, ⊤ₛ}

  -- the two contracts are one, and it requires nothing
  pub same_contract : (κs : Lfts 3) (a : Args pieces.signature κs) → pieces.clauses 𝓛 mem run κs a ≡ bits.clauses 𝓛 mem run κs a
  same_contract κs a = refl

  pub requires_nothing : (κs : Lfts 3) (a : Args pieces.signature κs) → (pieces.clauses 𝓛 mem run κs a).requires tt ≡ ⊤ₛ
  requires_nothing κs a = refl

  -- facts of two assertions that stand side by side
  both : (X Y : SProp 𝓤) (P Q R : Type 0) → ent 𝓤 X ⌜ P ⌝ → ent 𝓤 Y ⌜ Q ⌝ → (P → Q → R) → ent 𝓤 (X ∗ Y) ⌜ R ⌝
  both X Y P Q R f g h = fact_use 𝓤 P (via 𝓤 X (fst∗ 𝓤 X Y) f) (λ p. fact_use 𝓤 Q (via 𝓤 Y (snd∗ 𝓤 X Y) g) (λ q. fact_i 𝓤 R (X ∗ Y) (h p q)))

  module _ (table answer work : List ℕ) (r : Record) (answer' work' : List ℕ) where
    abbrev R₁ : Type 0
    R₁ = r ≡ solve_record table (length answer) (length work)

    abbrev R₂ : Type 0
    R₂ = answer' ≡ answer_after table answer (length work)

    abbrev R₃ : Type 0
    R₃ = work' ≡ work_after table (length answer) work

    says : ent 𝓤 (⌜ R₁ ⌝ ∗ ⌜ R₂ ⌝ ∗ ⌜ R₃ ⌝) ⌜ Says table answer work r answer' work' ⌝
    says =
        both ⌜ R₁ ⌝ (⌜ R₂ ⌝ ∗ ⌜ R₃ ⌝) R₁ (R₂ × R₃) (Says table answer work r answer' work') (id⊢ 𝓤 ⌜ R₁ ⌝)
        (both ⌜ R₂ ⌝ ⌜ R₃ ⌝ R₂ R₃ (R₂ × R₃) (id⊢ 𝓤 ⌜ R₂ ⌝) (id⊢ 𝓤 ⌜ R₃ ⌝) (λ e₂ e₃. (e₂, e₃)))
        (λ e₁ e. record { record_is = e₁; answer_is = e.0; work_is = e.1 })

  -- what the two calls promise of their results, on the same input, makes these the same
  pub same_solver : (κs κs' : Lfts 3) (a : Args pieces.signature κs) (a' : Args bits.signature κs') → a.0.now ≡ a'.0.now → a.1.0.now ≡ a'.1.0.now → a.1.1.0.now ≡ a'.1.1.0.now
      → (r : Res pieces.signature κs) (r' : Res bits.signature κs') (e : AtExit pieces.ended κs) (e' : AtExit bits.ended κs')
      → ent 𝓤 ((pieces.clauses 𝓛 mem run κs a).ensures tt r e ∗ (bits.clauses 𝓛 mem run κs' a').ensures tt r' e') ⌜ Same r r' e.1.0.now e'.1.0.now e.1.1.0.now e'.1.1.0.now ⌝
  same_solver κs κs' a a' t x w r r' e e' =
      both ((pieces.clauses 𝓛 mem run κs a).ensures tt r e) ((bits.clauses 𝓛 mem run κs' a').ensures tt r' e')
      (Says a.0.now a.1.0.now a.1.1.0.now r e.1.0.now e.1.1.0.now) (Says a'.0.now a'.1.0.now a'.1.1.0.now r' e'.1.0.now e'.1.1.0.now)
      (Same r r' e.1.0.now e'.1.0.now e.1.1.0.now e'.1.1.0.now)
      (says a.0.now a.1.0.now a.1.1.0.now r e.1.0.now e.1.1.0.now) (says a'.0.now a'.1.0.now a'.1.1.0.now r' e'.1.0.now e'.1.1.0.now)
      (λ p q. says_same a'.0.now a'.1.0.now a'.1.1.0.now r r' _ _ _ _ (rw (t, x, w) at p) q)
