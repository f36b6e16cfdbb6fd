-- A fine row more is passed: the state, the widths and the starts are those of the rows with it.
use mathlib.Core.Path.{◌≡◌, refl, sym, ap, ◌∙◌}
use mathlib.Core.Logic.{◌⊎◌, inl, inr, ◌≢◌}
use mathlib.Core.Bool.{Bool, true, false, not, ◌&&◌, ◌||◌, cond, and-false, and_comm}
use mathlib.Core.List.{List, [], ◌∷◌, ◌++◌}
use Prim.Native.Nat.{ℕ, suc, ◌+◌, ◌%◌, ◌≤◌, ◌<◌}
use native.Mathlib.Omega.{arith}
use native.Mathlib.Numerals.{add-one}
use lib.Dec.{eqb, ltb}
use lib.ListN.{length, get_or, set}
use lib.Seq.{get_or-set_same, get_or-set_other}
use borrow.Author.Tests.{eqb-true, eq-eqb, ne_eqb, lt-ltb, le-ltb, ltb-true}
use Rattle.laws.proofs.Bools.{and_parts, cond_most, not-and}
use Rattle.laws.proofs.Numbers.{dec_eq, lt_or_le, eqb_turn}
use Rattle.answers.specs.declared.AnswerRow.{AnswerRow}
use Rattle.answers.specs.Answer.{is_fresh, fresh_width, fresh_start, width_in_rows}
use Rattle.assignments.specs.Form.{variable_fine, pattern_bits, neighbours_fine, row_fine}
use Rattle.assignments.proofs.FormFacts.{Clauses, clauses, formed_more}
use Rattle.assignments.proofs.FreshPieces.{starts_same, below_most, below_more, kept_width, own_width}
use Rattle.assignments.proofs.Turning.{variable_after, neighbours_after}
use Rattle.assignments.proofs.VariableBits.{bits_append, width_append}
use Rattle.shapes.specs.declared.Progress.{Progress}
use Rattle.shapes.specs.inner.Shapes.{width_before, is_new, advanced}
use Rattle.shapes.proofs.Passed.{Passed}

module _ (before : List AnswerRow) (p : Progress) (widths starts : List ℕ) (k : Passed before p widths starts) (r : AnswerRow) (fine : row_fine before r ≡ true)
    (room : 4096 ≤ length widths) (space : 4096 ≤ length starts) where
  abbrev after : List AnswerRow
  after = before ++ (r ∷ [])

  -- the state without wrapping
  abbrev then : Progress
  then = record {
    variable = r.variable;
    next = r.variable + 1;
    kind = r.kind;
    width = width_before p r.variable + r.width;
    bits = p.bits + r.width;
    pieces = p.pieces + cond (is_new p r) 1 0;
    free = p.free + cond (is_new p r) r.width 0;
  }

  C : Clauses before r
  C = clauses before r fine

  -- the row's variable: the last one or the next
  reached : (r.variable < 64) × ((r.variable ≡ p.variable) ⊎ (r.variable ≡ p.next))
  reached =
      let h = and_parts (ltb r.variable 64) (eqb r.variable p.variable || eqb r.variable p.next) (sym (k.variable_is r) ∙ C.variable-fine) in
      (ltb-true r.variable 64 h.0, go (eqb r.variable p.variable) refl h.1)
    where
      go : (t : Bool) → eqb r.variable p.variable ≡ t → t || eqb r.variable p.next ≡ true → (r.variable ≡ p.variable) ⊎ (r.variable ≡ p.next)
      go true e q = inl (eqb-true r.variable p.variable e)
      go false e q = inr (eqb-true r.variable p.next q)

  reaches : p.variable ≤ r.variable
  reaches = go reached.1
    where
      go : (r.variable ≡ p.variable) ⊎ (r.variable ≡ p.next) → p.variable ≤ r.variable
      go (inl e) = omega arith
      go (inr e) = omega (arith, k.rising)

  -- few rows, and so few pieces
  place : p.pieces < 4096
  place = omega (arith, below_most p.pieces before k.pieces_are, k.formed.few_rows, C.in_pattern, C.wide)

  advanced_is : advanced p r ≡ then
  unfolding advanced
  advanced_is = rw (e₁, e₂, e₃, e₄, e₅)
    where
      e₁ : (r.variable + 1) % 65536 ≡ r.variable + 1
      e₁ = omega (arith, reached.0)

      e₂ : (width_before p r.variable + r.width) % 65536 ≡ width_before p r.variable + r.width
      e₂ = omega (arith, C.in_variable, k.width_is r.variable reaches)

      e₃ : (p.bits + r.width) % 65536 ≡ p.bits + r.width
      e₃ = omega (arith, C.in_pattern, k.bits_are)

      e₄ : (p.pieces + cond {A = ℕ} (is_new p r) 1 0) % 65536 ≡ p.pieces + cond (is_new p r) 1 0
      e₄ = omega (arith, cond_most (is_new p r) 1, place)

      e₅ : (p.free + cond {A = ℕ} (is_new p r) r.width 0) % 65536 ≡ p.free + cond (is_new p r) r.width 0
      e₅ = omega (arith, cond_most (is_new p r) r.width, k.few_free, C.in_pattern, k.bits_are)

  variable_then : (q : AnswerRow) → variable_fine after q ≡ ltb q.variable 64 && (eqb q.variable r.variable || eqb q.variable (r.variable + 1))
  variable_then q =
      variable_after before r q
      ∙ rw (add-one) (and_comm (eqb q.variable r.variable || eqb q.variable (suc r.variable)) (ltb q.variable 64))

  neighbours_then : (q : AnswerRow) → q.kind < 2 → neighbours_fine after q ≡ not (eqb q.variable r.variable && eqb q.kind r.kind)
  neighbours_then q l = neighbours_after before r q ∙ rw (lt-ltb q.kind 2 l) (go (lt_or_le r.kind 2))
    where
      go : (r.kind < 2) ⊎ (2 ≤ r.kind) → is_fresh r || not (eqb r.variable q.variable) || not (eqb r.kind q.kind) ≡ not (eqb q.variable r.variable && eqb q.kind r.kind)
      go (inl h) = rw (lt-ltb r.kind 2 h, eqb_turn r.variable q.variable, eqb_turn r.kind q.kind) (not-and (eqb q.variable r.variable) (eqb q.kind r.kind))
      go (inr h) = rw (le-ltb r.kind 2 h, ne_eqb q.kind r.kind (omega arith), and-false (eqb q.variable r.variable))

  width_then : (v : ℕ) → r.variable ≤ v → width_in_rows after v ≡ width_before then v
  unfolding width_in_rows width_before
  width_then v l = width_append before (r ∷ []) v ∙ go (dec_eq v r.variable)
    where
      go : (v ≡ r.variable) ⊎ (v ≢ r.variable)
          → width_in_rows before v + (cond (eqb r.variable v) r.width 0 + 0) ≡ cond (eqb v r.variable) (width_before p r.variable + r.width) 0
      go (inl e) = rw (e, eq-eqb r.variable r.variable refl) (omega (arith, k.width_is r.variable reaches))
      go (inr e) = rw (ne_eqb r.variable v (λ q. e (sym q)), ne_eqb v r.variable e) (omega (arith, above))
        where
          above : width_in_rows before v ≡ 0
          above = k.width_is v (omega (arith, reaches)) ∙ rw (ne_eqb v p.variable (λ q. e (omega (arith, reaches))))

  -- the pieces with the row: those before it, and the next one if the row begins it
  kept : (j : ℕ) → j < p.pieces → fresh_width after j ≡ fresh_width before j
  kept = kept_width p.pieces before k.pieces_are r C.fresh-fine

  starts_old : (j : ℕ) → j ≤ p.pieces → fresh_start after j ≡ fresh_start before j
  starts_old j l = starts_same after before j (λ i h. kept i (omega arith))

  -- what the row adds: nothing, or the next piece
  data Step : Type 0 where
    same : is_new p r ≡ false → Step
    next : is_new p r ≡ true → fresh_width after p.pieces ≡ r.width → Step

  step : Step
  step = go (is_new p r) refl
    where
      go : (b : Bool) → is_new p r ≡ b → Step
      go false e = same e
      go true e =
          let h = and_parts (is_fresh r) (eqb r.fresh p.pieces) (unfold is_new in e) in
          let d : r.fresh ≡ p.pieces = eqb-true r.fresh p.pieces h.1 in
          next e (ap (fresh_width after) (sym d) ∙ own_width p.pieces before k.pieces_are r C.fresh-fine h.0)

  -- an entry below the new count: an old one, or the one that was stored
  entry : (j : ℕ) → j < p.pieces + cond (is_new p r) 1 0 → (j < p.pieces) ⊎ ((j ≡ p.pieces) × (fresh_width after p.pieces ≡ r.width))
  entry j l = go step (lt_or_le j p.pieces)
    where
      go : Step → (j < p.pieces) ⊎ (p.pieces ≤ j) → (j < p.pieces) ⊎ ((j ≡ p.pieces) × (fresh_width after p.pieces ≡ r.width))
      go s (inl q) = inl q
      go (same e) (inr q) = absurd (omega (arith, rw e at l))
      go (next e w) (inr q) = inr (omega (arith, rw e at l), w)

  widths_then : (j : ℕ) → j < p.pieces + cond (is_new p r) 1 0 → get_or (set widths p.pieces r.width) j 0 ≡ fresh_width after j
  widths_then j l = go (entry j l)
    where
      go : (j < p.pieces) ⊎ ((j ≡ p.pieces) × (fresh_width after p.pieces ≡ r.width)) → get_or (set widths p.pieces r.width) j 0 ≡ fresh_width after j
      go (inl q) = get_or-set_other widths p.pieces j r.width 0 (λ e. omega arith) ∙ k.widths_are j q ∙ sym (kept j q)
      go (inr (e, w)) = rw e (get_or-set_same widths p.pieces r.width 0 (omega (arith, place)) ∙ sym w)

  starts_then : (j : ℕ) → j < p.pieces + cond (is_new p r) 1 0 → get_or (set starts p.pieces p.free) j 0 ≡ fresh_start after j
  starts_then j l = go (entry j l)
    where
      go : (j < p.pieces) ⊎ ((j ≡ p.pieces) × (fresh_width after p.pieces ≡ r.width)) → get_or (set starts p.pieces p.free) j 0 ≡ fresh_start after j
      go (inl q) = get_or-set_other starts p.pieces j p.free 0 (λ e. omega arith) ∙ k.starts_are j q ∙ sym (starts_old j (omega arith))
      go (inr (e, w)) = rw e (get_or-set_same starts p.pieces p.free 0 (omega (arith, place)) ∙ k.free_is ∙ sym (starts_old p.pieces (omega arith)))

  free_then : p.free + cond (is_new p r) r.width 0 ≡ fresh_start after (p.pieces + cond (is_new p r) 1 0)
  free_then = go step
    where
      old : p.free ≡ fresh_start after p.pieces
      old = k.free_is ∙ sym (starts_old p.pieces (omega arith))

      go : Step → p.free + cond (is_new p r) r.width 0 ≡ fresh_start after (p.pieces + cond (is_new p r) 1 0)
      go (same e) = let z : p.pieces + 0 ≡ p.pieces = omega arith in rw (e, z) (omega (arith, old))
      go (next e w) = unfold fresh_start in rw (e, add-one) (omega (arith, old, w))

  passed_then : Passed after then (set widths p.pieces r.width) (set starts p.pieces p.free)
  unfolding is_new pattern_bits
  passed_then = record {
    formed = formed_more before r fine k.formed;
    variable_is = variable_then;
    rising = omega arith;
    neighbours_are = neighbours_then;
    width_is = width_then;
    bits_are = omega (arith, bits_append before (r ∷ []), k.bits_are);
    pieces_are = below_more p.pieces before k.pieces_are r C.fresh-fine;
    widths_are = widths_then;
    starts_are = starts_then;
    free_is = free_then;
    few_free = omega (arith, cond_most (is_new p r) r.width, k.few_free);
  }

  pub passed_more : Passed (before ++ (r ∷ [])) (advanced p r) (set widths p.pieces r.width) (set starts p.pieces p.free)
  passed_more = rw advanced_is passed_then
