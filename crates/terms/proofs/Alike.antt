-- Rows that differ at most in what the rows of one kind k say, a kind other than that of a variable: they have the same variables and the
-- same numbers of each kind, and where they have the same widths too, a row that both have breaks no rule in one if it breaks none in the other.
use mathlib.Core.Path.{◌≡◌, refl, sym, ◌∙◌, ap, ap₂}
use mathlib.Core.Bool.{Bool, true, false, cond}
use mathlib.Core.List.{List, [], ◌∷◌}
use mathlib.Core.Logic.{⊎_elim}
use Prim.Native.Nat.{ℕ, zero, suc, ◌+◌, ◌<◌, min}
use native.Mathlib.Omega.{arith}
use lib.Dec.{eqb}
use lib.ListN.{length, take, length-take, get_or-eq_default}
use lib.Seq.{get_or-take}
use borrow.Author.Tests.{eqb-true, eqb-false}
use Rattle.terms.specs.declared.Row.{Row}
use Rattle.terms.specs.Table.{row_at, no_row, bits_in, bits_of, count_kind, widths_of}
use Rattle.terms.specs.Faults.{breaks12, breaks13, breaks14, breaks15, breaks40, breaks16, breaks17, not_term, misnamed}
use Rattle.terms.specs.inner.Places.{first_place}
use Rattle.terms.proofs.RowKinds.{bits_other}
use Rattle.terms.proofs.Places.{place_other}
use Rattle.terms.proofs.Faults.{Kept}
use Rattle.laws.proofs.Numbers.{lt_or_le}

-- of kind k where the other is, and equal where it is not
pub record AlikeRow (k : ℕ) (s r : Row) : Type 0 where
  pub kind_is : s.kind ≡ r.kind
  pub same : (r.kind ≡ k → ⊥) → s ≡ r

pub record Alike (k : ℕ) (ss rs : List Row) : Type 0 where
  pub count : length ss ≡ length rs
  pub each : (i : ℕ) → i < length rs → AlikeRow k (row_at ss i) (row_at rs i)

module _ (k : ℕ) where
  pub alike_kinds : (ss rs : List Row) → Alike k ss rs → (i : ℕ) → (row_at ss i).kind ≡ (row_at rs i).kind
  alike_kinds ss rs a i =
      ⊎_elim (λ l. (a.each i l).kind_is)
      (λ l. ap (λ (row : Row). row.kind) (get_or-eq_default ss no_row (omega (arith, a.count)) ∙ sym (get_or-eq_default rs no_row l)))
      (lt_or_le i (length rs))

  pub alike-take : (n : ℕ) (ss rs : List Row) → Alike k ss rs → Alike k (take n ss) (take n rs)
  alike-take n ss rs a =
      record {
        count = length-take n ss ∙ ap (min n) a.count ∙ sym (length-take n rs);
        each = λ i h. rw (get_or-take n ss i no_row (omega (arith, length-take n rs)), get_or-take n rs i no_row (omega (arith, length-take n rs))) (a.each i (omega (arith, length-take n rs)));
      }

  pub head_alike : (s r : Row) (ss rs : List Row) → Alike k (s ∷ ss) (r ∷ rs) → AlikeRow k s r
  head_alike s r ss rs a = a.each 0 (omega arith)

  pub tail_alike : (s r : Row) (ss rs : List Row) → Alike k (s ∷ ss) (r ∷ rs) → Alike k ss rs
  tail_alike s r ss rs a = record { count = omega (arith, a.count); each = λ i h. a.each (suc i) (omega arith) }

  -- what asks a row of kind k for its kind alone is the same for alike rows
  pub alike_use : {A : Type 0} (f : Row → A) (s r : Row) → AlikeRow k s r → ((x : Row) → x.kind ≡ k → (y : Row) → y.kind ≡ k → f x ≡ f y) → f s ≡ f r
  alike_use f s r a alike = go (eqb r.kind k) refl
    where
      go : (b : Bool) → eqb r.kind k ≡ b → f s ≡ f r
      go true e = let h : r.kind ≡ k = eqb-true r.kind k e in alike s (a.kind_is ∙ h) r h
      go false e = ap f (a.same (eqb-false r.kind k e))

  pub alike-count : (n : ℕ) (ss rs : List Row) → Alike k ss rs → count_kind n ss ≡ count_kind n rs
  unfolding count_kind
  alike-count n [] [] a = refl
  alike-count n [] (r ∷ rs) a = absurd (omega (arith, a.count))
  alike-count n (s ∷ ss) [] a = absurd (omega (arith, a.count))
  alike-count n (s ∷ ss) (r ∷ rs) a =
      ap₂ (λ (x y : ℕ). cond (eqb x n) 1 0 + y) (head_alike s r ss rs a).kind_is (alike-count n ss rs (tail_alike s r ss rs a))

  module _ (other : 0 < k) where
    pub alike_bits_in : (s r : Row) → AlikeRow k s r → bits_in s ≡ bits_in r
    alike_bits_in s r a = alike_use bits_in s r a (λ x e y f. bits_other x (λ z. absurd (omega arith)) ∙ sym (bits_other y (λ z. absurd (omega arith))))

    pub alike_bits : (ss rs : List Row) → Alike k ss rs → bits_of ss ≡ bits_of rs
    unfolding bits_of
    alike_bits [] [] a = refl
    alike_bits [] (r ∷ rs) a = absurd (omega (arith, a.count))
    alike_bits (s ∷ ss) [] a = absurd (omega (arith, a.count))
    alike_bits (s ∷ ss) (r ∷ rs) a = ap₂ ◌+◌ (alike_bits_in s r (head_alike s r ss rs a)) (alike_bits ss rs (tail_alike s r ss rs a))

    place_one : (v : ℕ) (rs : List Row) (x y : Row) → x.kind ≡ k → y.kind ≡ k → first_place (x ∷ rs) v ≡ first_place (y ∷ rs) v
    place_one v rs x y e f = place_other x rs v (λ z. absurd (omega arith)) ∙ sym (place_other y rs v (λ z. absurd (omega arith)))

    places_under : (s : Row) (ss rs : List Row) → ((v : ℕ) → first_place ss v ≡ first_place rs v) → (v : ℕ) → first_place (s ∷ ss) v ≡ first_place (s ∷ rs) v
    unfolding first_place
    places_under s ss rs h zero = refl
    places_under s ss rs h (suc v) = rw (h v, h (suc v))

    pub alike_places : (ss rs : List Row) → Alike k ss rs → (v : ℕ) → first_place ss v ≡ first_place rs v
    alike_places [] [] a v = refl
    alike_places [] (r ∷ rs) a v = absurd (omega (arith, a.count))
    alike_places (s ∷ ss) [] a v = absurd (omega (arith, a.count))
    alike_places (s ∷ ss) (r ∷ rs) a v =
        places_under s ss rs (alike_places ss rs (tail_alike s r ss rs a)) v
        ∙ alike_use (λ (x : Row). first_place (x ∷ rs) v) s r (head_alike s r ss rs a) (λ x e y f. place_one v rs x y e f)

    -- ---- the rules
    module _ (s t : List Row) (alike : Alike k s t) where
      terms_same : (r x : ℕ) → not_term s r x ≡ not_term t r x
      unfolding not_term
      terms_same r x = rw (alike_kinds s t alike x)

      pub names_same : (r : ℕ) (row : Row) → misnamed s r row ≡ misnamed t r row
      unfolding misnamed
      names_same r row = rw (terms_same r row.a, terms_same r row.b)

      pub totals_same : (r : ℕ) → breaks17 s r ≡ breaks17 t r
      unfolding breaks17
      totals_same r =
          let a = alike-take (suc r) s t alike in
          rw (alike-count 0 (take (suc r) s) (take (suc r) t) a, alike_bits (take (suc r) s) (take (suc r) t) a, alike-count 4 (take (suc r) s) (take (suc r) t) a)

      pub kinds_same : (r : ℕ) → breaks12 s r ≡ breaks12 t r
      unfolding breaks12
      kinds_same r = rw (alike_kinds s t alike r)

      -- a row that both have
      pub kept_same : widths_of s ≡ widths_of t → (r : ℕ) → row_at s r ≡ row_at t r → Kept t r → Kept s r
      unfolding breaks13 breaks14 breaks15 breaks40 breaks16
      kept_same widths r e h =
          record {
            kept12 = kinds_same r ∙ h.kept12;
            kept13 = rw e h.kept13;
            kept14 = rw e (names_same r (row_at t r) ∙ h.kept14);
            kept15 = rw (e, widths) h.kept15;
            kept40 = rw e h.kept40;
            kept16 = rw (e, widths) h.kept16;
            kept17 = totals_same r ∙ h.kept17;
          }
