-- The bit pairs of a row are those that readers give of the normal forms of its filled sides.
use mathlib.Core.Path.{◌≡◌, refl, sym, ◌∙◌, ap, ap₂}
use mathlib.Core.Bool.{Bool, true, false}
use mathlib.Core.List.{List, [], ◌∷◌}
use Prim.Native.Nat.{ℕ, suc, ◌+◌, ◌<◌, ◌≤◌, max}
use native.Mathlib.Omega.{arith}
use native.Mathlib.Nat.{zero-add}
use lib.Dec.{eqb}
use lib.ListN.{length, get_or}
use borrow.Author.Tests.{eqb-true, eqb-false}
use Rattle.terms.specs.declared.Row.{Row}
use Rattle.terms.specs.Table.{rows_of, row_at, bits_of, width_of, count_kind, source_of}
use Rattle.terms.specs.inner.Places.{low_source}
use Rattle.laws.specs.Buffers.{overwrite}
use Rattle.terms.specs.Faults.{absent}
use Rattle.terms.proofs.AcceptedTable.{Table, accepted_table, table_bits, term_present}
use Rattle.terms.proofs.RowKinds.{of_equation, of_term}
use Rattle.terms.proofs.Faults.{Term, Kept, kept, kept_names, equation_names, widths_small}
use Rattle.terms.proofs.Filled.{evened-word, evened-length}
use Rattle.terms.proofs.Sources.{source_length}
use Rattle.answers.specs.Pairs.{Pair, paired, pairs_of}
use Rattle.answers.proofs.Filled.{paired-count}
use Rattle.forms.specs.Form.{form_from, numbers_of}
use Rattle.terms.specs.inner.Placed.{Numbered}
use Rattle.sides.specs.inner.Sides.{Prepared, left_side, right_side, side_written, pairs_from, SidesWritten, SidesRead}
use Rattle.sides.proofs.FormSources.{filled_below, below_read, side_read, side_ends}

-- pairs read where two words stand
pairs-from : (left right xs ys : List ℕ) (k : ℕ) → length xs ≡ length ys
    → ((i : ℕ) → i < length xs → get_or left (k + i) 0 ≡ get_or xs i 0)
    → ((i : ℕ) → i < length ys → get_or right (k + i) 0 ≡ get_or ys i 0)
    → pairs_from left right k (length xs) ≡ paired xs ys
unfolding pairs_from paired
pairs-from left right [] ys k e l r = refl
pairs-from left right (x ∷ xs) [] k e l r = absurd (omega arith)
pairs-from left right (x ∷ xs) (y ∷ ys) k e l r =
    let z : k ≡ k + 0 = omega arith in
    let s : (i : ℕ) → suc k + i ≡ k + suc i = λ i. omega arith in
    let a : get_or left k 0 ≡ x = ap (λ (j : ℕ). get_or left j 0) z ∙ l 0 (omega arith) in
    let b : get_or right k 0 ≡ y = ap (λ (j : ℕ). get_or right j 0) z ∙ r 0 (omega arith) in
    ap₂ (λ (p : Pair) (ps : List Pair). p ∷ ps)
    (ap₂ (λ (m n : ℕ). record { left = m; right = n }) a b)
    (pairs-from left right xs ys (suc k) (omega arith)
    (λ i h. ap (λ (j : ℕ). get_or left j 0) (s i) ∙ l (suc i) (omega arith))
    (λ i h. ap (λ (j : ℕ). get_or right j 0) (s i) ∙ r (suc i) (omega arith)))

module _ (table widths variables : List ℕ) (ready : Numbered table widths variables) (r : ℕ) (inside : r < length (rows_of table)) where
  abbrev rows : List Row
  rows = rows_of table

  whole : Table table
  whole = accepted_table table ready.accepted

  row_kept : Kept rows r
  row_kept = kept rows r (whole.sound r inside)

  -- a row that is no equation has no pairs, and nothing is written for it
  pub no_sides : (left right : List ℕ) → ((row_at (rows_of table) r).kind ≡ 4 → ⊥) → SidesWritten (rows_of table) r left left right right 0
  unfolding side_written pairs_of
  no_sides left right h =
      record {
        left_is = sym (of_term (row_at rows r) _ left h);
        right_is = sym (of_term (row_at rows r) _ right h);
        count = sym (ap length (of_term (row_at rows r) _ [] h));
      }

  module _ (e : (row_at rows r).kind ≡ 4) where
    abbrev a : ℕ
    a = (row_at rows r).a

    abbrev b : ℕ
    b = (row_at rows r).b

    sides : Term rows r a × Term rows r b
    sides = equation_names rows r (row_at rows r) (kept_names rows r row_kept) e

    left_in : a < length rows
    left_in = omega (arith, sides.0.earlier, inside)

    right_in : b < length rows
    right_in = omega (arith, sides.1.earlier, inside)

    pub left_there : absent rows a ≡ false
    left_there = term_present rows a left_in sides.0.no_equation

    pub right_there : absent rows b ≡ false
    right_there = term_present rows b right_in sides.1.no_equation

    left_wide : length (left_side rows (row_at rows r)) ≡ max (width_of rows a) (width_of rows b)
    left_wide = (evened-word (source_of rows a) (source_of rows b)).wide ∙ ap₂ max (source_length rows whole.sound a left_in) (source_length rows whole.sound b right_in)

    same_wide : length (left_side rows (row_at rows r)) ≡ length (right_side rows (row_at rows r))
    same_wide = evened-length (source_of rows a) (source_of rows b)

    small : (x : ℕ) → x < length rows → width_of rows x ≤ 1024
    small x h = widths_small rows (length rows) (omega arith) whole.sound x h

    left_few : length (left_side rows (row_at rows r)) ≤ 1024
    left_few = omega (arith, left_wide, small a left_in, small b right_in)

    are_pairs : pairs_of rows (row_at rows r) ≡ paired (left_side rows (row_at rows r)) (right_side rows (row_at rows r))
    unfolding pairs_of
    are_pairs = of_equation (row_at rows r) (paired (left_side rows (row_at rows r)) (right_side rows (row_at rows r))) [] e

    pub both_sides : (left left' right right' : List ℕ) (w : ℕ)
        → left' ≡ overwrite (numbers_of (form_from (rows_of table) (left_side (rows_of table) (row_at (rows_of table) r)))) left
        → right' ≡ overwrite (numbers_of (form_from (rows_of table) (right_side (rows_of table) (row_at (rows_of table) r)))) right
        → w ≡ max (get_or widths (row_at (rows_of table) r).a 0) (get_or widths (row_at (rows_of table) r).b 0)
        → SidesWritten (rows_of table) r left left' right right' w
    unfolding side_written
    both_sides left left' right right' w eₗ eᵣ ew =
        record {
          left_is = eₗ ∙ sym (of_equation (row_at rows r) _ left e);
          right_is = eᵣ ∙ sym (of_equation (row_at rows r) _ right e);
          count =
              ew ∙ ap₂ max (ready.widths_are a left_in) (ready.widths_are b right_in) ∙ sym left_wide
              ∙ sym (ap length are_pairs ∙ paired-count (left_side rows (row_at rows r)) (right_side rows (row_at rows r)) same_wide);
        }

    module _ (lows : List ℕ) (lows_are : (v : ℕ) → v < count_kind 0 (rows_of table) → get_or lows v 0 ≡ low_source (rows_of table) v) where
      equation_read : (left left' right right' : List ℕ) (w : ℕ) → 4096 ≤ length left → 4096 ≤ length right
          → SidesWritten (rows_of table) r left left' right right' w → SidesRead (rows_of table) r lows left' right' w
      unfolding side_written
      equation_read left left' right right' w roomₗ roomᵣ s =
          let l : List ℕ = left_side rows (row_at rows r) in
          let q : List ℕ = right_side rows (row_at rows r) in
          let wide : w ≡ length l = s.count ∙ ap length are_pairs ∙ paired-count l q same_wide in
          let right-few : length q ≤ 1024 = omega (arith, same_wide, left_few) in
          record {
            left_read =
                λ k at h.
                side_read table widths variables ready a left_there b right_there lows lows_are left left' roomₗ
                (s.left_is ∙ of_equation (row_at rows r) _ left e) k at (omega (arith, wide));
            right_read =
                λ k at h.
                side_read table widths variables ready b right_there a left_there lows lows_are right right' roomᵣ
                (s.right_is ∙ of_equation (row_at rows r) _ right e) k at (omega (arith, wide, same_wide));
            left_ends =
                λ k at h n.
                omega (
                  arith,
                  wide,
                  side_ends table widths variables ready a left_there b right_there lows lows_are left left' roomₗ
                      (s.left_is ∙ of_equation (row_at rows r) _ left e) k at (omega (arith, wide)) n,
                );
            pairs = ap (pairs_from l q 0) wide ∙ pairs-from l q l q 0 same_wide (λ i h. ap (λ (j : ℕ). get_or l j 0) (zero-add i)) (λ i h. ap (λ (j : ℕ). get_or q j 0) (zero-add i)) ∙ sym are_pairs;
            few = omega (arith, wide, left_few);
            few_bits = table_bits table ready.accepted;
            left_small = λ i h. below_read (bits_of rows + 2) l (filled_below rows whole.sound a b left_in) i (omega (arith, wide));
            right_small = λ i h. below_read (bits_of rows + 2) q (filled_below rows whole.sound b a right_in) i (omega (arith, wide, same_wide));
          }

-- the readers of the forms that were written give the bit pairs of the row
module _ (table widths variables lows : List ℕ) (ready : Prepared table widths variables lows) (r : ℕ) (inside : r < length (rows_of table)) where
  pub none_read : (left right : List ℕ) → ((row_at (rows_of table) r).kind ≡ 4 → ⊥) → SidesRead (rows_of table) r lows left right 0
  unfolding pairs_from pairs_of
  none_read left right h =
      record {
        left_read = λ k at l. absurd (omega arith);
        right_read = λ k at l. absurd (omega arith);
        left_ends = λ k at l. absurd (omega arith);
        pairs = sym (of_term (row_at (rows_of table) r) _ [] h);
        few = omega arith;
        few_bits = table_bits table ready.numbered.accepted;
        left_small = λ i l. absurd (omega arith);
        right_small = λ i l. absurd (omega arith);
      }

  pub sides_read : (left left' right right' : List ℕ) (w : ℕ) → 4096 ≤ length left → 4096 ≤ length right
      → SidesWritten (rows_of table) r left left' right right' w → SidesRead (rows_of table) r lows left' right' w
  unfolding pairs_of
  sides_read left left' right right' w roomₗ roomᵣ s = go (eqb (row_at (rows_of table) r).kind 4) refl
    where
      go : (b : Bool) → eqb (row_at (rows_of table) r).kind 4 ≡ b → SidesRead (rows_of table) r lows left' right' w
      go true e = equation_read table widths variables ready.numbered r inside (eqb-true _ 4 e) lows ready.lows_are left left' right right' w roomₗ roomᵣ s
      go false e =
          let n = eqb-false (row_at (rows_of table) r).kind 4 e in
          let z : w ≡ 0 = s.count ∙ ap length (no_row_pairs n) in
          rw z (none_read left' right' n)
        where
          no_row_pairs : ((row_at (rows_of table) r).kind ≡ 4 → ⊥) → pairs_of (rows_of table) (row_at (rows_of table) r) ≡ []
          no_row_pairs n = of_term (row_at (rows_of table) r) _ [] n
