-- Which word of a window is which variable (document 02, (ii)): the first is variable 0, and so on. Assumes nothing.
use mathlib.Core.Path.{◌≡◌, refl, sym, ◌∙◌, ap, ap₂}
use mathlib.Core.Bool.{true}
use mathlib.Core.List.{List, [], ◌∷◌, ◌++◌}
use mathlib.Core.Logic.{◌⊎◌, inl, inr}
use Prim.Native.Nat.{ℕ, zero, suc, ◌+◌, ◌*◌, ◌≤◌, ◌<◌}
use native.Mathlib.Omega.{arith}
use lib.Dec.{eqb}
use lib.ListN.{length, get_or, take, drop, length-drop}
use lib.Seq.{length-take-le, take-append_seam, drop-append-add, get_or-take, get_or-drop}
use borrow.Author.Tests.{eqb-true}
use Rattle.terms.specs.declared.Row.{Row}
use Rattle.terms.specs.Table.{row_at, bits_of, count_kind, value_of}
use Rattle.terms.proofs.Places.{count_variable, count_other}
use Rattle.terms.proofs.RowKinds.{of_variable, of_other, bits_variable, bits_other}
use Rattle.terms.proofs.Values.{value_variable}
use Rattle.laws.specs.Binary.{binary}
use Rattle.laws.proofs.Binary.{binary-length}
use Rattle.laws.proofs.Bools.{and_parts}
use Rattle.laws.proofs.Numbers.{dec_eq}
use Rattle.answers.specs.Answer.{variable_widths}
use Rattle.windows.specs.Words.{words_bits, sixteens}
use Rattle.windows.specs.Positions.{EachSixteen, WordOfVariable}
use Rattle.windows.proofs.Sixteens.{sixteens_of}

-- Word j of some words is their bits from place 16 j on.
word_at : (window : List ℕ) (j : ℕ) → j < length window → take 16 (drop (16 * j) (words_bits window)) ≡ binary 16 (get_or window j 0)
unfolding words_bits
word_at [] j l = absurd (omega arith)
word_at (w ∷ ws) zero l =
    ap (λ (n : ℕ). take n (binary 16 w ++ words_bits ws)) (sym (binary-length 16 w)) ∙ take-append_seam (binary 16 w) (words_bits ws)
word_at (w ∷ ws) (suc j) l =
    let e : 16 * suc j ≡ length (binary 16 w) + 16 * j = omega (arith, binary-length 16 w) in
    ap (λ (n : ℕ). take 16 (drop n (binary 16 w ++ words_bits ws))) e
    ∙ ap (take 16) (drop-append-add (binary 16 w) (words_bits ws) (16 * j)) ∙ word_at ws j (omega arith)

-- A row that is a variable, where each has 16 bits: its width, how many bits stand before it, and that it is one of the variables.
abbrev Placed16 : List Row → ℕ → Type 0
Placed16 t r = ((row_at t r).a ≡ 16) × (bits_of (take r t) ≡ 16 * count_kind 0 (take r t)) × (count_kind 0 (take r t) < count_kind 0 t)

placed_16 : (t : List Row) → sixteens (variable_widths t) ≡ true → (r : ℕ) → r < length t → (row_at t r).kind ≡ 0 → Placed16 t r
unfolding bits_of count_kind variable_widths sixteens
placed_16 [] h r l k = absurd (omega arith)
placed_16 (x ∷ t) h r l k = go (dec_eq x.kind 0) r l k (placed_16 t)
  where
    go : (x.kind ≡ 0) ⊎ (x.kind ≡ 0 → ⊥) → (r : ℕ) → r < length (x ∷ t) → (row_at (x ∷ t) r).kind ≡ 0
        → (sixteens (variable_widths t) ≡ true → (r : ℕ) → r < length t → (row_at t r).kind ≡ 0 → Placed16 t r) → Placed16 (x ∷ t) r
    go (inl e) zero l k more =
        let w = and_parts (eqb x.a 16) (sixteens (variable_widths t)) (sym (ap sixteens (of_variable x (x.a ∷ variable_widths t) (variable_widths t) e)) ∙ h) in
        (eqb-true x.a 16 w.0, refl, omega (arith, count_variable x t e))
    go (inl e) (suc r) l k more =
        let w = and_parts (eqb x.a 16) (sixteens (variable_widths t)) (sym (ap sixteens (of_variable x (x.a ∷ variable_widths t) (variable_widths t) e)) ∙ h) in
        let m = more w.1 r (omega arith) k in (
          m.0,
          omega (arith, m.1, bits_variable x e, eqb-true x.a 16 w.0, count_variable x (take r t) e),
          omega (arith, m.2, count_variable x (take r t) e, count_variable x t e),
        )
    go (inr e) zero l k more = absurd (e k)
    go (inr e) (suc r) l k more =
        let m = more (sym (ap sixteens (of_other x (x.a ∷ variable_widths t) (variable_widths t) e)) ∙ h) r (omega arith) k in (
          m.0,
          omega (arith, m.1, bits_other x e, count_other x (take r t) e),
          omega (arith, m.2, count_other x (take r t) e, count_other x t e),
        )

-- (h) Variable j of the window that starts at word i is word i + j.
pub word_of_variable : (t : List Row) → EachSixteen t → (words : List ℕ) (i : ℕ) → i + count_kind 0 t ≤ length words → WordOfVariable t words i
word_of_variable t h words i inside r j l k e =
    let p = placed_16 t (sixteens_of (variable_widths t) h) r l k in
    let window : List ℕ = take (count_kind 0 t) (drop i words) in
    let wide : length window ≡ count_kind 0 t = length-take-le (count_kind 0 t) (drop i words) (omega (arith, length-drop i words)) in
    value_variable t (words_bits window) r l k
    ∙ ap₂ (λ (w at : ℕ). take w (drop at (words_bits window))) p.0 p.1
    ∙ word_at window (count_kind 0 (take r t)) (omega (arith, p.2, wide))
    ∙ ap (binary 16)
    (get_or-take (count_kind 0 t) (drop i words) (count_kind 0 (take r t)) 0 p.2 ∙ get_or-drop i words (count_kind 0 (take r t)) 0
    ∙ ap (λ (n : ℕ). get_or words (i + n) 0) e)
