-- The shortened table of an accepted one (`shortened`), row by row: a cut of it is a cut with the same value, and every other row
-- is as it was.
use mathlib.Core.Path.{◌≡◌, refl, sym, ◌∙◌, ap}
use mathlib.Core.Bool.{Bool, true, false, ◌&&◌, cond}
use mathlib.Core.List.{List, [], ◌∷◌, ◌++◌}
use Prim.Native.Nat.{ℕ, suc, ◌+◌, ◌-◌, ◌<◌, ◌≤◌}
use native.Mathlib.Omega.{arith}
use lib.Dec.{eqb}
use lib.ListN.{length, take}
use borrow.Author.Tests.{eqb-true, eqb-false, eq-eqb, ne_eqb}
use Rattle.terms.specs.declared.Row.{Row}
use Rattle.terms.specs.Table.{row_at, no_row, width_of, bits_of, extract, value_of}
use Rattle.laws.proofs.Numbers.{by_strong}
use Rattle.terms.proofs.ByRows.{rows_count, rows_early, rows_more, rows_at}
use Rattle.terms.proofs.Faults.{Term, kept, kept_names, kept_bounds, extract_names}
use Rattle.terms.proofs.Values.{value-extract, value-length, width_extract}
use Rattle.terms.specs.Sound.{Sound}
use Rattle.terms.proofs.Words.{extract-extract}
use Rattle.copies.specs.inner.Shortened.{short_row, shortened}

pub short_count : (t : List Row) → length (shortened t) ≡ length t
unfolding shortened
short_count t = rows_count (λ before made r. short_row made r) t

pub short_more : (t : List Row) (r : ℕ) → r < length t
    → shortened (take (suc r) t) ≡ shortened (take r t) ++ (short_row (shortened (take r t)) (row_at t r) ∷ [])
unfolding shortened
short_more t r h = rows_more (λ before made r. short_row made r) t r h

pub short_at : (t : List Row) (r : ℕ) → r < length t → row_at (shortened t) r ≡ short_row (shortened (take r t)) (row_at t r)
unfolding shortened
short_at t r h = rows_at (λ before made r. short_row made r) t r no_row h

pub short_early : (t : List Row) (r i : ℕ) → r ≤ length t → i < r → row_at (shortened (take r t)) i ≡ row_at (shortened t) i
unfolding shortened
short_early t r i h l = rows_early (λ before made r. short_row made r) t r no_row i h l

-- a cut of a cut
abbrev pub one_cut : Row → Row → Row
one_cut r named = record { kind = 3; a = named.a; b = r.b + named.c; c = r.c + named.c }

pub row_cut : (made : List Row) (r : Row) → r.kind ≡ 3 → (row_at made r.a).kind ≡ 3 → short_row made r ≡ one_cut r (row_at made r.a)
unfolding short_row
row_cut made r e f = rw (eq-eqb r.kind 3 e, eq-eqb (row_at made r.a).kind 3 f)

pub row_same_inner : (made : List Row) (r : Row) → ((row_at made r.a).kind ≡ 3 → ⊥) → short_row made r ≡ r
unfolding short_row
row_same_inner made r f = go (eqb r.kind 3)
  where
    row : Row
    row = one_cut r (row_at made r.a)

    go : (b : Bool) → cond (b && eqb (row_at made r.a).kind 3) row r ≡ r
    go true = rw (ne_eqb (row_at made r.a).kind 3 f)
    go false = refl

pub row_same : (made : List Row) (r : Row) → (r.kind ≡ 3 → ⊥) → short_row made r ≡ r
unfolding short_row
row_same made r e = rw (ne_eqb r.kind 3 e)

-- a row that is a cut of row r's value
pub record CutOf (t : List Row) (r : ℕ) (row : Row) : Type 0 where
  pub is_cut : row.kind ≡ 3
  pub names : Term t r row.a
  pub below : row.b < width_of t row.a
  pub order : row.c ≤ row.b
  pub wide : row.b + 1 - row.c ≡ width_of t r
  pub value : (p : List ℕ) → length p ≡ bits_of t → value_of t p r ≡ extract (value_of t p row.a) row.b row.c

module _ (t : List Row) (sound : Sound t) where
  -- a row that is no cut stays
  pub short_same : (r : ℕ) → r < length t → ((row_at t r).kind ≡ 3 → ⊥) → row_at (shortened t) r ≡ row_at t r
  short_same r h e = short_at t r h ∙ row_same (shortened (take r t)) (row_at t r) e

  own_cut : (r : ℕ) → r < length t → (row_at t r).kind ≡ 3 → CutOf t r (row_at t r)
  own_cut r h e =
      let k = kept t r (sound r h) in
      let bounds = kept_bounds t r k e in
      record {
        is_cut = e;
        names = extract_names t r (row_at t r) (kept_names t r k) e;
        below = bounds.0;
        order = bounds.1;
        wide = sym (width_extract t r h e);
        value = λ p whole. value-extract t p r h k e;
      }

  -- a cut of row x, which is a cut
  cut_cut : (r x : ℕ) → r < length t → (row_at t r).kind ≡ 3 → (row_at t r).a ≡ x → (named : Row) → CutOf t x named → CutOf t r (one_cut (row_at t r) named)
  cut_cut r x h e ex named inner =
      let mine = own_cut r h e in
      let x-early : x < r = omega (arith, mine.names.earlier) in
      let high : (row_at t r).b < width_of t x = rw ex at mine.below in
      record {
        is_cut = refl;
        names = record { earlier = omega (arith, inner.names.earlier); no_equation = inner.names.no_equation };
        below = omega (arith, inner.below, inner.order, inner.wide);
        order = omega (arith, mine.order);
        wide = omega (arith, mine.wide, mine.order);
        value =
            λ p whole.
            let size : length (value_of t p named.a) ≡ width_of t named.a = value-length t p sound whole named.a (omega (arith, inner.names.earlier)) in
            mine.value p whole
            ∙ ap (λ (i : ℕ). extract (value_of t p i) (row_at t r).b (row_at t r).c) ex
            ∙ ap (λ (w : List ℕ). extract w (row_at t r).b (row_at t r).c) (inner.value p whole)
            ∙ extract-extract (value_of t p named.a) named.b named.c (row_at t r).b (row_at t r).c (omega (arith, inner.below)) inner.order
            (omega (arith, inner.wide, inner.order)) mine.order;
      }

  -- each cut is made a cut of the same value
  pub short_cut : (r : ℕ) → r < length t → (row_at t r).kind ≡ 3 → CutOf t r (row_at (shortened t) r)
  short_cut = by_strong (λ (r : ℕ). r < length t → (row_at t r).kind ≡ 3 → CutOf t r (row_at (shortened t) r)) step
    where
      step : (r : ℕ) → ((i : ℕ) → i < r → i < length t → (row_at t i).kind ≡ 3 → CutOf t i (row_at (shortened t) i)) → r < length t → (row_at t r).kind ≡ 3
          → CutOf t r (row_at (shortened t) r)
      step r before h e = rw (short_at t r h) (go (eqb (row_at made x).kind 3) refl)
        where
          x : ℕ
          x = (row_at t r).a

          made : List Row
          made = shortened (take r t)

          early : x < r
          early = (own_cut r h e).names.earlier

          same : row_at made x ≡ row_at (shortened t) x
          same = short_early t r x (omega arith) early

          inner : (row_at made x).kind ≡ 3 → (row_at t x).kind ≡ 3
          inner f = there (eqb (row_at t x).kind 3) refl
            where
              there : (b : Bool) → eqb (row_at t x).kind 3 ≡ b → (row_at t x).kind ≡ 3
              there true g = eqb-true (row_at t x).kind 3 g
              there false g =
                  sym (ap (λ (row : Row). row.kind) (same ∙ short_same x (omega (arith, early)) (eqb-false (row_at t x).kind 3 g))) ∙ f

          go : (b : Bool) → eqb (row_at made x).kind 3 ≡ b → CutOf t r (short_row made (row_at t r))
          go true f =
              let g : (row_at made x).kind ≡ 3 = eqb-true (row_at made x).kind 3 f in
              let it : CutOf t x (row_at made x) = rw same (before x early (omega (arith, early)) (inner g)) in
              rw (row_cut made (row_at t r) e g) (cut_cut r x h e refl (row_at made x) it)
          go false f = rw (row_same_inner made (row_at t r) (eqb-false (row_at made x).kind 3 f)) (own_cut r h e)
