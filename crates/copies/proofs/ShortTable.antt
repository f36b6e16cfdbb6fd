-- The shortened table of an accepted one is accepted, and has its widths, its sources and its bit pairs.
use mathlib.Core.Path.{◌≡◌, refl, sym, ◌∙◌, ap, ap₂}
use mathlib.Core.Bool.{Bool, true, false}
use mathlib.Core.List.{List, []}
use Prim.Native.Nat.{ℕ, ◌+◌, ◌<◌}
use native.Mathlib.Omega.{arith}
use lib.Dec.{eqb}
use lib.ListN.{length, get_or, take}
use lib.Seq.{ext_get_or}
use borrow.Author.Tests.{eqb-true, eqb-false}
use Rattle.terms.specs.declared.Row.{Row}
use Rattle.terms.specs.Table.{row_at, width_in, widths_of, width_of, bits_of, extract, values_of, value_of, sources_of, counting}
use Rattle.laws.specs.Lists.{count_up}
use Rattle.laws.proofs.Numbers.{by_strong}
use Rattle.terms.proofs.Widths.{width_row, width_early, width_same, widths_count}
use Rattle.terms.proofs.Faults.{Kept, kept, unbroken, kept_names, concat_names, cut_keeps_13, cut_keeps_14, cut_keeps_15, cut_keeps_40, cut_keeps_16}
use Rattle.terms.proofs.Values.{values_count, value-extract, value_same, width_extract}
use Rattle.terms.specs.Sound.{Sound}
use Rattle.laws.proofs.CountUp.{count-up}
use Rattle.answers.specs.Pairs.{pairs_in, equation_pairs}
use Rattle.answers.proofs.Equations.{pairs_same}
use Rattle.copies.specs.inner.Shortened.{shortened}
use Rattle.terms.proofs.LeavingOff.{alike_sources}
use Rattle.terms.proofs.Counting.{counting-alike, counting_keeps}
use Rattle.terms.proofs.Alike.{AlikeRow, Alike, alike_kinds, alike-take, alike_bits, totals_same, kinds_same, kept_same}
use Rattle.copies.proofs.SamePairs.{alike_pairs}
use Rattle.copies.proofs.Shortened.{short_count, short_same, CutOf, short_cut}

module _ (t : List Row) (sound : Sound t) where
  abbrev s : List Row
  s = shortened t

  pub short_alike : Alike 3 s t
  short_alike = record { count = short_count t; each = each }
    where
      each : (r : ℕ) → r < length t → AlikeRow 3 (row_at s r) (row_at t r)
      each r h = go (eqb (row_at t r).kind 3) refl
        where
          go : (b : Bool) → eqb (row_at t r).kind 3 ≡ b → AlikeRow 3 (row_at s r) (row_at t r)
          go true e =
              let k : (row_at t r).kind ≡ 3 = eqb-true (row_at t r).kind 3 e in
              record { kind_is = (short_cut t sound r h k).is_cut ∙ sym k; same = λ n. absurd (n k) }
          go false e =
              let f = short_same t sound r h (eqb-false (row_at t r).kind 3 e) in
              record { kind_is = ap (λ (row : Row). row.kind) f; same = λ n. f }

  short_width : (r : ℕ) → r < length t → width_of s r ≡ width_of t r
  short_width = by_strong (λ (r : ℕ). r < length t → width_of s r ≡ width_of t r) step
    where
      step : (r : ℕ) → ((i : ℕ) → i < r → i < length t → width_of s i ≡ width_of t i) → r < length t → width_of s r ≡ width_of t r
      step r before h = go (eqb (row_at t r).kind 3) refl
        where
          l : r < length s
          l = omega (arith, short_count t)

          at : (x : ℕ) → x < r → get_or (widths_of (take r s)) x 0 ≡ get_or (widths_of (take r t)) x 0
          at x m = width_early s r x (omega (arith, l)) m ∙ before x m (omega arith) ∙ sym (width_early t r x (omega arith) m)

          go : (b : Bool) → eqb (row_at t r).kind 3 ≡ b → width_of s r ≡ width_of t r
          go true e = let it = short_cut t sound r h (eqb-true (row_at t r).kind 3 e) in width_extract s r l it.is_cut ∙ it.wide
          go false e =
              width_row s r l
              ∙ ap (width_in (widths_of (take r s))) (short_same t sound r h (eqb-false (row_at t r).kind 3 e))
              ∙ width_same (widths_of (take r s)) (widths_of (take r t)) (row_at t r)
              (λ f.
              let names = concat_names t r (row_at t r) (kept_names t r (kept t r (sound r h))) f in
              ap₂ ◌+◌ (at (row_at t r).a names.0.earlier) (at (row_at t r).b names.1.earlier))
              ∙ sym (width_row t r h)

  pub short_widths : widths_of s ≡ widths_of t
  short_widths =
      ext_get_or 0 (widths_of s) (widths_of t) (widths_count s ∙ short_count t ∙ sym (widths_count t))
      (λ i h. short_width i (omega (arith, widths_count s, short_count t)))

  -- a cut breaks no rule
  kept_cut : (r : ℕ) → CutOf t r (row_at s r) → Kept t r → Kept s r
  kept_cut r cut k =
      let e = cut.is_cut in
      let x = (row_at s r).a in
      record {
        kept12 = kinds_same 3 (omega arith) s t short_alike r ∙ k.kept12;
        kept13 = cut_keeps_13 s r e;
        kept14 = cut_keeps_14 s r e (record { earlier = cut.names.earlier; no_equation = λ f. cut.names.no_equation (sym (alike_kinds 3 s t short_alike x) ∙ f) });
        kept15 = cut_keeps_15 s r e;
        kept40 = cut_keeps_40 s r e;
        kept16 = cut_keeps_16 s r e (rw short_widths cut.below) cut.order;
        kept17 = totals_same 3 (omega arith) s t short_alike r ∙ k.kept17;
      }

  short_kept : (r : ℕ) → r < length t → Kept s r
  short_kept r h = go (eqb (row_at t r).kind 3) refl
    where
      k : Kept t r
      k = kept t r (sound r h)

      go : (b : Bool) → eqb (row_at t r).kind 3 ≡ b → Kept s r
      go true e = kept_cut r (short_cut t sound r h (eqb-true (row_at t r).kind 3 e)) k
      go false e = kept_same 3 (omega arith) s t short_alike short_widths r (short_same t sound r h (eqb-false (row_at t r).kind 3 e)) k

  pub short_sound : Sound s
  short_sound r h = unbroken s r (short_kept r (omega (arith, short_count t)))

  short_value : (p : List ℕ) → length p ≡ bits_of t → (r : ℕ) → r < length t → value_of s p r ≡ value_of t p r
  short_value p whole = by_strong (λ (r : ℕ). r < length t → value_of s p r ≡ value_of t p r) step
    where
      step : (r : ℕ) → ((i : ℕ) → i < r → i < length t → value_of s p i ≡ value_of t p i) → r < length t → value_of s p r ≡ value_of t p r
      step r before h = go (eqb (row_at t r).kind 3) refl
        where
          l : r < length s
          l = omega (arith, short_count t)

          go : (b : Bool) → eqb (row_at t r).kind 3 ≡ b → value_of s p r ≡ value_of t p r
          go true e =
              let it = short_cut t sound r h (eqb-true (row_at t r).kind 3 e) in
              value-extract s p r l (short_kept r h) it.is_cut
              ∙ ap (λ (w : List ℕ). extract w (row_at s r).b (row_at s r).c)
              (before (row_at s r).a it.names.earlier (omega (arith, it.names.earlier)))
              ∙ sym (it.value p whole)
          go false e =
              value_same s t p r l h (short_kept r h) (kept t r (sound r h)) (short_same t sound r h (eqb-false (row_at t r).kind 3 e))
              (alike_bits 3 (omega arith) (take r s) (take r t) (alike-take 3 r s t short_alike))
              (λ i m. before i m (omega arith))

  short_values : (p : List ℕ) → length p ≡ bits_of t → values_of s p ≡ values_of t p
  short_values p whole =
      ext_get_or [] (values_of s p) (values_of t p) (values_count s p ∙ short_count t ∙ sym (values_count t p))
      (λ i h. short_value p whole i (omega (arith, values_count s p, short_count t)))

  pub short_sources : sources_of s ≡ sources_of t
  unfolding sources_of
  short_sources =
      ap (λ (n : ℕ). values_of s (count_up 2 n)) (alike_bits 3 (omega arith) s t short_alike) ∙ short_values (count_up 2 (bits_of t)) (count-up 2 (bits_of t))

  -- what counts in it has the bit pairs of what counts in the table
  pub short_pairs : pairs_in (counting s) (counting s) ≡ equation_pairs t
  short_pairs =
      let alike = counting_keeps 3 (omega arith) s t short_alike in
      pairs_same (counting s) t (counting s) (counting t) alike.count
      (λ r h. alike_pairs (counting s) t (row_at (counting s) r) (row_at (counting t) r) (alike.each r h) (alike_sources (counting s) s (counting-alike s) ∙ short_sources))
