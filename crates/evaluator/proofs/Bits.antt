-- One bit of a row's value, kind by kind: where it stands in the pattern, or which bit of an earlier row it is.
use mathlib.Core.Path.{◌≡◌, refl, sym, ◌∙◌, ap}
use mathlib.Core.Bool.{Bool, true, false}
use mathlib.Core.List.{List, ◌++◌}
use mathlib.Core.Logic.{inl, inr, ⊎_elim}
use Prim.Native.Nat.{ℕ, ◌+◌, ◌-◌, ◌/◌, ◌%◌, ◌^◌, ◌<◌, ◌≤◌}
use native.Mathlib.Omega.{arith}
use lib.Dec.{eqb}
use lib.ListN.{length, get_or, take, drop, get_or-replicate, get_or-append}
use lib.Seq.{get_or-take, get_or-drop, get_or-append-add}
use borrow.Author.Tests.{eqb-true, eqb-false}
use Rattle.laws.proofs.Bools.{or_first, or_second}
use Rattle.laws.proofs.Binary.{binary_at}
use Rattle.terms.specs.declared.Row.{Row}
use Rattle.terms.specs.Table.{rows_of, row_at, width_of, bits_of, count_kind, fixed_word, value_of}
use Rattle.terms.proofs.RowKinds.{Fixed}
use Rattle.terms.proofs.Places.{place-row, count-part}
use Rattle.terms.proofs.AcceptedTable.{Table, accepted_table}
use Rattle.terms.proofs.Faults.{Term, Kept, kept, kept_names, kept_kind, kept_first, kept_bit, kept_bounds, concat_names, extract_names, totals_small}
use Rattle.terms.proofs.Values.{value-length, fill-word, value-word, value_variable, value_fixed, value-concat, value-extract, width_variable, width_fixed, width_concat, width_extract, variable_fits}
use Rattle.terms.proofs.Words.{extract-bit}
use Rattle.evaluator.specs.inner.Ready.{Ready, IsTerm, is_fixed}

-- a kind that is none of a fixed word, and one that is
not_fixed : (kind : ℕ) → is_fixed kind ≡ false → (kind ≡ 1 → ⊥) × (kind ≡ 5 → ⊥)
unfolding is_fixed
not_fixed kind h = (eqb-false kind 1 (or_first (eqb kind 1) (eqb kind 5) h), eqb-false kind 5 (or_second (eqb kind 1) (eqb kind 5) h))

is-fixed : (kind : ℕ) → is_fixed kind ≡ true → Fixed kind
unfolding is_fixed
is-fixed kind h = go (eqb kind 1) refl
  where
    go : (b : Bool) → eqb kind 1 ≡ b → Fixed kind
    go true e = inl (eqb-true kind 1 e)
    go false e = let five : kind ≡ 5 = eqb-true kind 5 (rw e at h) in inr (omega arith)

-- a bit of a fixed word
pub fill_at : (r : Row) (i : ℕ) → r.kind ≡ 1 → i < r.b → r.a ≡ get_or (fixed_word r) i 0
fill_at r i e h = sym (ap (λ (v : List ℕ). get_or v i 0) (fill-word r e) ∙ get_or-replicate r.b i r.a 0 h)

pub value_at : (r : Row) (i : ℕ) → is_fixed r.kind ≡ true → (r.kind ≡ 1 → ⊥) → i < r.b → r.a / 2 ^ (r.b - 1 - i) % 2 ≡ get_or (fixed_word r) i 0
value_at r i e h l =
    let five : 5 ≤ r.kind = ⊎_elim (λ k. absurd (h k)) (λ k. k) (is-fixed r.kind e) in
    sym (ap (λ (v : List ℕ). get_or v i 0) (value-word r five) ∙ binary_at r.b r.a i l)

module _ (table widths places pattern : List ℕ) (ready : Ready table widths places pattern) (row : ℕ) (is : IsTerm table row) where
  abbrev rows : List Row
  rows = rows_of table

  abbrev at : Row
  at = row_at (rows_of table) row

  sound : Table table
  sound = accepted_table table ready.placed.numbered.accepted

  row_kept : Kept rows row
  row_kept = kept rows row (sound.sound row is.there)

  term_named : (x : ℕ) → Term rows row x → IsTerm table x
  term_named x named = record { there = omega (arith, is.there, named.earlier); no_equation = named.no_equation }

  lengths : (x : ℕ) → x < length rows → length (value_of rows pattern x) ≡ width_of rows x
  lengths x h = value-length rows pattern sound.sound ready.whole x h

  pub value_wide : length (value_of rows pattern row) ≡ width_of rows row
  value_wide = lengths row is.there

  pub row_small : row < 512
  row_small = omega (arith, is.there, sound.few)

  -- a concatenation and an extraction name an earlier row first
  pub first_lower : (at.kind ≡ 0 → ⊥) → is_fixed at.kind ≡ false → at.a < row
  first_lower h₀ h₁ =
      let n = not_fixed at.kind h₁ in
      kept_first rows row row_kept h₀ (λ f. ⊎_elim (λ e. n.0 e) (λ l. n.1 (omega (arith, kept_kind rows row row_kept))) f)

  pub extract_left_over : (at.kind ≡ 0 → ⊥) → is_fixed at.kind ≡ false → (at.kind ≡ 2 → ⊥) → at.kind ≡ 3
  extract_left_over h₀ h₁ h₂ =
      let n = not_fixed at.kind h₁ in
      let n₁ = n.0 in
      let n₅ = n.1 in
      omega (arith, kept_kind rows row row_kept, is.no_equation)

  -- the source before the variable
  few_before : count_kind 0 (take row rows) ≤ 64
  few_before = (totals_small rows row (λ x l. sound.sound x (omega (arith, is.there)))).0

  pub number_small : get_or places row 0 ≤ 64
  number_small = omega (arith, ready.placed.numbered.variables_are row is.there, few_before)

  before_is : get_or places (512 + get_or places row 0) 0 ≡ bits_of (take row rows) + 1
  before_is =
      ap (λ (v : ℕ). get_or places (512 + v) 0) (ready.placed.numbered.variables_are row is.there)
      ∙ ready.placed.sources_are (count_kind 0 (take row rows)) (count-part rows row)
      ∙ ap (λ (b : ℕ). b + 1) (place-row rows row)

  module _ (i : ℕ) (inside : i < width_of rows row) (before : ℕ) (e : before ≡ get_or places (512 + get_or places row 0) 0) where
    pub variable_within : at.kind ≡ 0 → (1 ≤ before + i) × (before + i - 1 < length pattern)
    variable_within k =
        (omega (arith, before_is), omega (arith, before_is, ready.whole, variable_fits rows row is.there k, width_variable rows row is.there k))

    pub variable_bit : at.kind ≡ 0 → get_or pattern (before + i - 1) 0 ≡ get_or (value_of rows pattern row) i 0
    variable_bit k =
        let n : bits_of (take row rows) + i ≡ before + i - 1 = omega (arith, before_is) in
        sym
        (ap (λ (v : List ℕ). get_or v i 0) (value_variable rows pattern row is.there k)
        ∙ get_or-take at.a (drop (bits_of (take row rows)) pattern) i 0 (omega (arith, width_variable rows row is.there k))
        ∙ get_or-drop (bits_of (take row rows)) pattern i 0 ∙ ap (λ (j : ℕ). get_or pattern j 0) n)

  module _ (i : ℕ) (inside : i < width_of rows row) where
    pub fill_small : at.kind ≡ 1 → at.a ≤ 1
    fill_small e = kept_bit rows row row_kept e

    pub fixed_within : is_fixed at.kind ≡ true → i < at.b
    fixed_within e = omega (arith, width_fixed rows row is.there (is-fixed at.kind e))

    pub fixed_value : is_fixed at.kind ≡ true → get_or (fixed_word at) i 0 ≡ get_or (value_of rows pattern row) i 0
    fixed_value e = ap (λ (v : List ℕ). get_or v i 0) (sym (value_fixed rows pattern row is.there (is-fixed at.kind e)))

    module _ (e : at.kind ≡ 2) where
      names : Term rows row at.a × Term rows row at.b
      names = concat_names rows row at (kept_names rows row row_kept) e

      pub left_term : IsTerm table at.a
      left_term = term_named at.a names.0

      pub right_term : IsTerm table at.b
      right_term = term_named at.b names.1

      pub left_lower : at.a < row
      left_lower = names.0.earlier

      pub right_lower : at.b < row
      right_lower = names.1.earlier

      sides : value_of rows pattern row ≡ value_of rows pattern at.a ++ value_of rows pattern at.b
      sides = value-concat rows pattern row is.there row_kept e

      pub left_bit : i < width_of rows at.a → get_or (value_of rows pattern at.a) i 0 ≡ get_or (value_of rows pattern row) i 0
      left_bit l =
          sym
          (ap (λ (v : List ℕ). get_or v i 0) sides
          ∙ get_or-append (value_of rows pattern at.a) (value_of rows pattern at.b) 0 i (omega (arith, lengths at.a left_term.there)))

      pub right_within : width_of rows at.a ≤ i → i - width_of rows at.a < width_of rows at.b
      right_within l = omega (arith, width_concat rows row is.there row_kept e)

      pub right_bit : width_of rows at.a ≤ i → get_or (value_of rows pattern at.b) (i - width_of rows at.a) 0 ≡ get_or (value_of rows pattern row) i 0
      right_bit l =
          let n : i ≡ length (value_of rows pattern at.a) + (i - width_of rows at.a) = omega (arith, lengths at.a left_term.there) in
          sym
          (ap (λ (v : List ℕ). get_or v i 0) sides
          ∙ ap (λ (k : ℕ). get_or (value_of rows pattern at.a ++ value_of rows pattern at.b) k 0) n
          ∙ get_or-append-add (value_of rows pattern at.a) (value_of rows pattern at.b) (i - width_of rows at.a) 0)

    module _ (e : at.kind ≡ 3) where
      named : Term rows row at.a
      named = extract_names rows row at (kept_names rows row row_kept) e

      pub cut_term : IsTerm table at.a
      cut_term = term_named at.a named

      pub cut_lower : at.a < row
      cut_lower = named.earlier

      pub cut_within : (at.b + 1 ≤ width_of rows at.a) × (width_of rows at.a - (at.b + 1) + i < width_of rows at.a)
      cut_within =
          let bounds = kept_bounds rows row row_kept e in
          (omega (arith, bounds.0), omega (arith, bounds.0, width_extract rows row is.there e))

      pub cut_bit : get_or (value_of rows pattern at.a) (width_of rows at.a - (at.b + 1) + i) 0 ≡ get_or (value_of rows pattern row) i 0
      cut_bit =
          let bounds = kept_bounds rows row row_kept e in
          let n = lengths at.a cut_term.there in
          sym
          (ap (λ (v : List ℕ). get_or v i 0) (value-extract rows pattern row is.there row_kept e)
          ∙ extract-bit (value_of rows pattern at.a) at.b at.c i (omega (arith, width_extract rows row is.there e)) (omega (arith, n, bounds.0))
          ∙ ap (λ (k : ℕ). get_or (value_of rows pattern at.a) (k - (at.b + 1) + i) 0) n)
