-- What is known of the state when fine rows are passed, and that the test of the next row by this state is the form's.
use mathlib.Core.Path.{◌≡◌, refl, sym, ap, ap₂, ◌∙◌}
use mathlib.Core.Logic.{◌⊎◌, inl, inr}
use mathlib.Core.Bool.{Bool, true, false, not, ◌&&◌, ◌||◌, cond, and-true, and-false, or-false}
use mathlib.Core.List.{List, [], ◌∷◌}
use Prim.Native.Nat.{ℕ, zero, suc, ◌≤◌, ◌<◌}
use native.Mathlib.Omega.{arith}
use lib.Dec.{eqb, ltb}
use lib.ListN.{get_or}
use borrow.Author.Tests.{eqb-true, ne_eqb, lt-ltb, le-ltb}
use Rattle.laws.specs.Lists.{member}
use Rattle.laws.proofs.Bools.{and_second}
use Rattle.laws.proofs.Numbers.{lt_or_le}
use Rattle.answers.specs.declared.AnswerRow.{AnswerRow}
use Rattle.answers.specs.Answer.{is_fresh, fresh_numbers, fresh_width, fresh_start, width_in_rows}
use Rattle.assignments.specs.Form.{variable_fine, kind_fine, width_fine, variable_wide, pattern_bits, pattern_wide, fill_fine, neighbours_fine, fresh_fine, row_fine}
use Rattle.assignments.proofs.FreshPieces.{Below, none_below, unseen, lowest_is}
use Rattle.assignments.proofs.FormFacts.{Formed, formed_none}
use Rattle.shapes.specs.declared.Progress.{Progress}
use Rattle.shapes.specs.inner.Shapes.{width_before, variable_in, widths_in, fill_in, fresh_in, fine_in}

-- Rows were passed, all of them fine: what the state, the widths and the starts say of them.
pub record Passed (before : List AnswerRow) (p : Progress) (widths starts : List ℕ) : Type 0 where
  pub formed : Formed before
  pub variable_is : (r : AnswerRow) → variable_fine before r ≡ ltb r.variable 64 && (eqb r.variable p.variable || eqb r.variable p.next)
  pub rising : p.variable ≤ p.next
  pub neighbours_are : (r : AnswerRow) → r.kind < 2 → neighbours_fine before r ≡ not (eqb r.variable p.variable && eqb r.kind p.kind)
  pub width_is : (v : ℕ) → p.variable ≤ v → width_in_rows before v ≡ width_before p v
  pub bits_are : p.bits ≡ pattern_bits before
  pub pieces_are : Below p.pieces before
  pub widths_are : (k : ℕ) → k < p.pieces → get_or widths k 0 ≡ fresh_width before k
  pub starts_are : (k : ℕ) → k < p.pieces → get_or starts k 0 ≡ fresh_start before k
  pub free_is : p.free ≡ fresh_start before p.pieces
  pub few_free : p.free ≤ p.bits

-- eight tests in another order
gather : (v k w x y f n r : Bool) → v && k && w && x && y && f && n && r ≡ (v && (w && x && y)) && (k && (f && n && r))
gather false k w x y f n r = refl
gather true false w x y f n r = sym (and-false (w && x && y))
gather true true w x y f n r = go (w && x && y)
  where
    go : (a : Bool) → a && f && n && r ≡ a && (f && n && r)
    go true = refl
    go false = refl

-- no row is passed
abbrev pub at_first : Progress
at_first = record { variable = 0; next = 0; kind = 2; width = 0; bits = 0; pieces = 0; free = 0 }

-- the first variable is 0
first_variable : (v : ℕ) → eqb v 0 ≡ ltb v 64 && (eqb v 0 || eqb v 0)
first_variable zero = refl
first_variable (suc v) = rw (ne_eqb (suc v) 0 (omega arith)) (sym (and-false (ltb (suc v) 64)))

same_either : (t : Bool) → cond {A = ℕ} t 0 0 ≡ 0
same_either true = refl
same_either false = refl

pub passed_none : (widths starts : List ℕ) → Passed [] at_first widths starts
unfolding variable_fine neighbours_fine width_in_rows width_before pattern_bits fresh_start
passed_none widths starts = record {
  formed = formed_none;
  variable_is = λ r. first_variable r.variable;
  rising = omega arith;
  neighbours_are = λ r l. rw (ne_eqb r.kind 2 (omega arith), and-false (eqb r.variable 0));
  width_is = λ v l. sym (same_either (eqb v 0));
  bits_are = refl;
  pieces_are = none_below;
  widths_are = λ k l. absurd (omega arith);
  starts_are = λ k l. absurd (omega arith);
  free_is = refl;
  few_free = omega arith;
}

-- a fresh piece has no neighbour to differ from
neighbours_fresh : (rows : List AnswerRow) (r : AnswerRow) → 2 ≤ r.kind → neighbours_fine rows r ≡ true
unfolding neighbours_fine
neighbours_fresh [] r l = refl
neighbours_fresh (a ∷ []) r l = rw (le-ltb r.kind 2 l)
neighbours_fresh (a ∷ b ∷ rows) r l = neighbours_fresh (b ∷ rows) r l

module _ (before : List AnswerRow) (p : Progress) (widths starts : List ℕ) (k : Passed before p widths starts) (r : AnswerRow) where
  variable_reaches : variable_in p r ≡ true → p.variable ≤ r.variable
  unfolding variable_in
  variable_reaches h = go (eqb r.variable p.variable) refl (and_second (ltb r.variable 64) (eqb r.variable p.variable || eqb r.variable p.next) h)
    where
      go : (t : Bool) → eqb r.variable p.variable ≡ t → t || eqb r.variable p.next ≡ true → p.variable ≤ r.variable
      go true e w = omega (arith, eqb-true r.variable p.variable e)
      go false e w = omega (arith, eqb-true r.variable p.next w, k.rising)

  fresh_is : 2 ≤ r.kind → fresh_fine before r ≡ cond (ltb r.fresh p.pieces) (eqb (get_or widths r.fresh 0) r.width) (eqb r.fresh p.pieces)
  unfolding fresh_fine
  fresh_is l = rw (le-ltb r.kind 2 l, lowest_is p.pieces before k.pieces_are) (go (lt_or_le r.fresh p.pieces))
    where
      go : (r.fresh < p.pieces) ⊎ (p.pieces ≤ r.fresh)
          → (member r.fresh (fresh_numbers before) && eqb (fresh_width before r.fresh) r.width) || eqb r.fresh p.pieces
          ≡ cond (ltb r.fresh p.pieces) (eqb (get_or widths r.fresh 0) r.width) (eqb r.fresh p.pieces)
      go (inl q) =
          rw (k.pieces_are.there r.fresh q, lt-ltb r.fresh p.pieces q, ne_eqb r.fresh p.pieces (omega arith), k.widths_are r.fresh q)
          (or-false (eqb (fresh_width before r.fresh) r.width))
      go (inr q) = rw (le-ltb r.fresh p.pieces q, unseen p.pieces before k.pieces_are r.fresh q)

  -- what is asked of a fill, or of a fresh piece
  last_is : kind_fine r && (fill_fine r && neighbours_fine before r && fresh_fine before r)
      ≡ cond (ltb r.kind 2) (fill_in p r) (fresh_in p r (get_or widths r.fresh 0))
  unfolding kind_fine fill_fine
  last_is = go (lt_or_le r.kind 2)
    where
      go : (r.kind < 2) ⊎ (2 ≤ r.kind)
          → ltb r.kind 3 && ((is_fresh r || eqb r.fresh 0) && neighbours_fine before r && fresh_fine before r) ≡ cond (ltb r.kind 2) (fill_in p r) (fresh_in p r (get_or widths r.fresh 0))
      go (inl l) =
          unfold fill_in fresh_fine in
          rw (lt-ltb r.kind 3 (omega arith), lt-ltb r.kind 2 l, k.neighbours_are r l) (and-true (eqb r.fresh 0 && not (eqb r.variable p.variable && eqb r.kind p.kind)))
      go (inr l) = unfold fresh_in in (rw (le-ltb r.kind 2 l, neighbours_fresh before r l) (ap (λ (t : Bool). ltb r.kind 3 && t) (fresh_is l)))

  -- the test by the state is the form's
  pub row_is : row_fine before r ≡ fine_in p r (get_or widths r.fresh 0)
  unfolding row_fine fine_in
  row_is =
      rw variables
      (gather (variable_in p r) (kind_fine r) (width_fine r) (variable_wide before r) (pattern_wide before r) (fill_fine r) (neighbours_fine before r) (fresh_fine before r)
      ∙ go (variable_in p r) refl)
    where
      variables : variable_fine before r ≡ variable_in p r
      variables = unfold variable_in in (k.variable_is r)

      wide_is : variable_in p r ≡ true → width_fine r && variable_wide before r && pattern_wide before r ≡ widths_in p r
      wide_is h = unfold width_fine variable_wide pattern_wide widths_in in rw (k.width_is r.variable (variable_reaches h), ← k.bits_are)

      go : (t : Bool) → variable_in p r ≡ t
          → (t && (width_fine r && variable_wide before r && pattern_wide before r)) && (kind_fine r && (fill_fine r && neighbours_fine before r && fresh_fine before r))
          ≡ t && widths_in p r && cond (ltb r.kind 2) (fill_in p r) (fresh_in p r (get_or widths r.fresh 0))
      go false e = refl
      go true e = ap₂ ◌&&◌ (wide_is e) last_is
