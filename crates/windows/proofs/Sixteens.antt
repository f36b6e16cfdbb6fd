-- Variables of 16 bits each: how many bits a table has then, and that a window of as many words is an assignment of it. Assumes nothing.
use mathlib.Core.Path.{◌≡◌, refl, sym, ◌∙◌, ap, subst}
use mathlib.Core.Bool.{true}
use mathlib.Core.List.{List, [], ◌∷◌}
use mathlib.Core.Logic.{◌⊎◌, inl, inr}
use Prim.Native.Nat.{ℕ, zero, suc, ◌*◌, ◌<◌}
use native.Mathlib.Omega.{arith}
use lib.Dec.{eqb}
use lib.ListN.{length, get_or}
use borrow.Author.Tests.{eqb-true, eq-eqb}
use Rattle.terms.specs.declared.Row.{Row}
use Rattle.terms.specs.Assignments.{Assignment}
use Rattle.terms.specs.Table.{bits_of, count_kind}
use Rattle.terms.proofs.Places.{count_variable, count_other}
use Rattle.terms.proofs.RowKinds.{of_variable, of_other, bits_variable, bits_other}
use Rattle.laws.proofs.Bools.{and_parts, and_both}
use Rattle.laws.proofs.Numbers.{dec_eq}
use Rattle.answers.specs.Answer.{variable_widths}
use Rattle.windows.specs.Words.{words_bits, sixteens}
use Rattle.windows.proofs.WordsBits.{words_assignment}

-- each width is 16, and the other way round
pub sixteens_of : (ws : List ℕ) → ((v : ℕ) → v < length ws → get_or ws v 0 ≡ 16) → sixteens ws ≡ true
unfolding sixteens
sixteens_of [] h = refl
sixteens_of (w ∷ ws) h = and_both (eqb w 16) (sixteens ws) (eq-eqb w 16 (h 0 (omega arith))) (sixteens_of ws (λ v l. h (suc v) (omega arith)))

pub sixteens_at : (ws : List ℕ) → sixteens ws ≡ true → (v : ℕ) → v < length ws → get_or ws v 0 ≡ 16
unfolding sixteens
sixteens_at [] h v l = absurd (omega arith)
sixteens_at (w ∷ ws) h zero l = eqb-true w 16 (and_parts (eqb w 16) (sixteens ws) h).0
sixteens_at (w ∷ ws) h (suc v) l = sixteens_at ws (and_parts (eqb w 16) (sixteens ws) h).1 v (omega arith)

-- all variables together have 16 times as many bits as there are variables
pub sixteen_bits : (t : List Row) → sixteens (variable_widths t) ≡ true → bits_of t ≡ 16 * count_kind 0 t
unfolding bits_of variable_widths sixteens count_kind
sixteen_bits [] h = refl
sixteen_bits (r ∷ t) h = go (dec_eq r.kind 0) (sixteen_bits t)
  where
    go : (r.kind ≡ 0) ⊎ (r.kind ≡ 0 → ⊥) → (sixteens (variable_widths t) ≡ true → bits_of t ≡ 16 * count_kind 0 t) → bits_of (r ∷ t) ≡ 16 * count_kind 0 (r ∷ t)
    go (inl e) more =
        let k = and_parts (eqb r.a 16) (sixteens (variable_widths t)) (sym (ap sixteens (of_variable r (r.a ∷ variable_widths t) (variable_widths t) e)) ∙ h) in
        omega (arith, bits_variable r e, eqb-true r.a 16 k.0, count_variable r t e, more k.1)
    go (inr e) more =
        omega (arith, bits_other r e, count_other r t e, more (sym (ap sixteens (of_other r (r.a ∷ variable_widths t) (variable_widths t) e)) ∙ h))

-- a window of as many words is an assignment
pub window_bits : (t : List Row) → sixteens (variable_widths t) ≡ true → (window : List ℕ) → length window ≡ count_kind 0 t → Assignment (bits_of t) (words_bits window)
window_bits t h window l =
    let e : 16 * length window ≡ bits_of t = omega (arith, sixteen_bits t h) in
    subst (λ (m : ℕ). Assignment m (words_bits window)) e (words_assignment window)
