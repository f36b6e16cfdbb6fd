-- The values of the rows of a table under an assignment: each kind's value from the values of the rows that it names,
-- their lengths, and their bits as sources.
use mathlib.Core.Path.{◌≡◌, sym, ◌∙◌, ap, ap₂}
use mathlib.Core.Bool.{Bool, true, false, cond}
use mathlib.Core.List.{List, [], ◌∷◌, ◌++◌}
use mathlib.Core.Logic.{inl, inr}
use Prim.Native.Nat.{ℕ, zero, suc, ◌+◌, ◌-◌, ◌<◌, ◌≤◌}
use native.Mathlib.Omega.{arith}
use borrow.Author.Tests.{ne_eqb}
use lib.Dec.{eqb}
use lib.ListN.{length, get_or, take, drop, replicate, length-append, length-drop, length-replicate}
use lib.Seq.{length-take-le}
use Rattle.terms.specs.declared.Row.{Row}
use Rattle.terms.specs.Table.{row_at, by_kind, width_in, width_of, bits_of, extract, fixed_word, value_in, values_of, value_of}
use Rattle.terms.proofs.RowKinds.{bits_variable, Fixed, fixed_kind, KindOf, is_variable, is-fixed, is_concat, is_extract, is_equation, kind-of}
use Rattle.laws.specs.Lists.{all_bits}
use Rattle.laws.proofs.Numbers.{by_strong}
use Rattle.laws.specs.Binary.{binary}
use Rattle.laws.proofs.AllBits.{bits_copies}
use Rattle.laws.proofs.Binary.{binary-length, binary_bits}
use Rattle.terms.proofs.ByRows.{rows_count, rows_early, rows_at}
use Rattle.terms.proofs.Widths.{width_row, width_early, bits_more}
use Rattle.terms.proofs.Faults.{Kept, kept, kept_names, kept_bit, kept_bounds, concat_names, extract_names}
use Rattle.terms.specs.Sound.{Sound}
use Rattle.terms.proofs.Words.{extract-length}

pub values_count : (t : List Row) (p : List ℕ) → length (values_of t p) ≡ length t
unfolding values_of
values_count t p = rows_count (value_in p) t

value_row : (t : List Row) (p : List ℕ) (r : ℕ) → r < length t
    → value_of t p r ≡ value_in p (take r t) (values_of (take r t) p) (row_at t r)
unfolding values_of
value_row t p r h = rows_at (value_in p) t r [] h

value_early : (t : List Row) (p : List ℕ) (r i : ℕ) → r ≤ length t → i < r → get_or (values_of (take r t) p) i [] ≡ value_of t p i
unfolding values_of
value_early t p r i h l = rows_early (value_in p) t r [] i h l

module _ (t : List Row) (p : List ℕ) (r : ℕ) (h : r < length t) where
  pub value_variable : (row_at t r).kind ≡ 0 → value_of t p r ≡ take (row_at t r).a (drop (bits_of (take r t)) p)
  unfolding value_in by_kind
  value_variable e = value_row t p r h ∙ rw e

  pub value_fixed : Fixed (row_at t r).kind → value_of t p r ≡ fixed_word (row_at t r)
  unfolding value_in
  value_fixed e = value_row t p r h ∙ fixed_kind (row_at t r).kind _ _ _ _ _ e

  pub value-concat : Kept t r → (row_at t r).kind ≡ 2 → value_of t p r ≡ value_of t p (row_at t r).a ++ value_of t p (row_at t r).b
  unfolding value_in by_kind
  value-concat k e =
      let names = concat_names t r (row_at t r) (kept_names t r k) e in
      value_row t p r h
      ∙ rw (e, value_early t p r (row_at t r).a (omega arith) names.0.earlier, value_early t p r (row_at t r).b (omega arith) names.1.earlier)

  pub value-extract : Kept t r → (row_at t r).kind ≡ 3 → value_of t p r ≡ extract (value_of t p (row_at t r).a) (row_at t r).b (row_at t r).c
  unfolding value_in by_kind
  value-extract k e =
      let named = extract_names t r (row_at t r) (kept_names t r k) e in
      value_row t p r h ∙ rw (e, value_early t p r (row_at t r).a (omega arith) named.earlier)

  pub value_equation : (row_at t r).kind ≡ 4 → value_of t p r ≡ []
  unfolding value_in by_kind
  value_equation e = value_row t p r h ∙ rw e

-- the first rows have no more bits than all
pub bits_part : (t : List Row) (r : ℕ) → bits_of (take r t) ≤ bits_of t
unfolding bits_of
bits_part [] zero = omega arith
bits_part [] (suc r) = omega arith
bits_part (x ∷ t) zero = omega arith
bits_part (x ∷ t) (suc r) = omega (arith, bits_part t r)

-- a variable's bits lie within the assignment
pub variable_fits : (t : List Row) (r : ℕ) → r < length t → (row_at t r).kind ≡ 0 → bits_of (take r t) + (row_at t r).a ≤ bits_of t
variable_fits t r h e = omega (arith, bits_variable (row_at t r) e, bits_more t r h, bits_part t (suc r))

-- the bits of a fill, and of a value
pub fill-word : (r : Row) → r.kind ≡ 1 → fixed_word r ≡ replicate r.b r.a
unfolding fixed_word
fill-word r e = rw e

pub value-word : (r : Row) → 5 ≤ r.kind → fixed_word r ≡ binary r.b r.a
unfolding fixed_word
value-word r e = rw (ne_eqb r.kind 1 (λ k. omega arith))

-- a fixed word has as many bits as its row says
pub fixed_length : (r : Row) → length (fixed_word r) ≡ r.b
unfolding fixed_word
fixed_length r = go (eqb r.kind 1)
  where
    go : (b : Bool) → length (cond b (replicate r.b r.a) (binary r.b r.a)) ≡ r.b
    go true = length-replicate r.b r.a
    go false = binary-length r.b r.a

-- and each is 0 or 1, where the row breaks no rule
pub fixed-bits : (t : List Row) (r : ℕ) → Kept t r → Fixed (row_at t r).kind → all_bits (fixed_word (row_at t r)) ≡ true
fixed-bits t r k (inl e) = rw (fill-word (row_at t r) e) (bits_copies (row_at t r).b (row_at t r).a (kept_bit t r k e))
fixed-bits t r k (inr e) = rw (value-word (row_at t r) e) (binary_bits (row_at t r).b (row_at t r).a)

-- widths, kind by kind
module _ (t : List Row) (r : ℕ) (h : r < length t) where
  pub width_variable : (row_at t r).kind ≡ 0 → width_of t r ≡ (row_at t r).a
  unfolding width_in by_kind
  width_variable e = width_row t r h ∙ rw e

  pub width_fixed : Fixed (row_at t r).kind → width_of t r ≡ (row_at t r).b
  unfolding width_in
  width_fixed e = width_row t r h ∙ fixed_kind (row_at t r).kind _ _ _ _ _ e

  pub width_concat : Kept t r → (row_at t r).kind ≡ 2 → width_of t r ≡ width_of t (row_at t r).a + width_of t (row_at t r).b
  unfolding width_in by_kind
  width_concat k e =
      let names = concat_names t r (row_at t r) (kept_names t r k) e in
      width_row t r h
      ∙ rw (e, width_early t r (row_at t r).a (omega arith) names.0.earlier, width_early t r (row_at t r).b (omega arith) names.1.earlier)

  pub width_extract : (row_at t r).kind ≡ 3 → width_of t r ≡ (row_at t r).b + 1 - (row_at t r).c
  unfolding width_in by_kind
  width_extract e = width_row t r h ∙ rw e

  pub width_equation : (row_at t r).kind ≡ 4 → width_of t r ≡ 0
  unfolding width_in by_kind
  width_equation e = width_row t r h ∙ rw e

-- a row that two tables have has one value, where as many variable bits stand before it and the rows before it have one value
pub value_same : (s t : List Row) (p : List ℕ) (r : ℕ) → r < length s → r < length t → Kept s r → Kept t r → row_at s r ≡ row_at t r
    → bits_of (take r s) ≡ bits_of (take r t) → ((i : ℕ) → i < r → value_of s p i ≡ value_of t p i) → value_of s p r ≡ value_of t p r
value_same s t p r l h m k f n before = go (kind-of (row_at t r).kind)
  where
    row : Row
    row = row_at t r

    go : KindOf (row_at t r).kind → value_of s p r ≡ value_of t p r
    go (is_variable e) =
        value_variable s p r l (rw f e) ∙ ap₂ (λ (x : Row) (b : ℕ). take x.a (drop b p)) f n ∙ sym (value_variable t p r h e)
    go (is-fixed e) = value_fixed s p r l (rw f e) ∙ ap fixed_word f ∙ sym (value_fixed t p r h e)
    go (is_concat e) =
        let names = concat_names t r row (kept_names t r k) e in
        value-concat s p r l m (rw f e)
        ∙ ap (λ (x : Row). value_of s p x.a ++ value_of s p x.b) f
        ∙ ap₂ (λ (x y : List ℕ). x ++ y) (before row.a names.0.earlier) (before row.b names.1.earlier)
        ∙ sym (value-concat t p r h k e)
    go (is_extract e) =
        let named = extract_names t r row (kept_names t r k) e in
        value-extract s p r l m (rw f e)
        ∙ ap (λ (x : Row). extract (value_of s p x.a) x.b x.c) f
        ∙ ap (λ (w : List ℕ). extract w row.b row.c) (before row.a named.earlier)
        ∙ sym (value-extract t p r h k e)
    go (is_equation e) = value_equation s p r l (rw f e) ∙ sym (value_equation t p r h e)

-- the value of a row of an accepted table is as long as the row is wide
pub value-length : (t : List Row) (p : List ℕ) → Sound t → length p ≡ bits_of t → (r : ℕ) → r < length t → length (value_of t p r) ≡ width_of t r
value-length t p sound whole = by_strong (λ (r : ℕ). r < length t → length (value_of t p r) ≡ width_of t r) step
  where
    step : (r : ℕ) → ((i : ℕ) → i < r → i < length t → length (value_of t p i) ≡ width_of t i) → r < length t → length (value_of t p r) ≡ width_of t r
    step r before h = go (kind-of (row_at t r).kind)
      where
        k : Kept t r
        k = kept t r (sound r h)

        go : KindOf (row_at t r).kind → length (value_of t p r) ≡ width_of t r
        go (is_variable e) =
            ap length (value_variable t p r h e)
            ∙ length-take-le (row_at t r).a (drop (bits_of (take r t)) p) (omega (arith, length-drop (bits_of (take r t)) p, variable_fits t r h e))
            ∙ sym (width_variable t r h e)
        go (is-fixed e) = ap length (value_fixed t p r h e) ∙ fixed_length (row_at t r) ∙ sym (width_fixed t r h e)
        go (is_concat e) =
            let names = concat_names t r (row_at t r) (kept_names t r k) e in
            let la = before (row_at t r).a names.0.earlier (omega (arith, names.0.earlier)) in
            let lb = before (row_at t r).b names.1.earlier (omega (arith, names.1.earlier)) in
            ap length (value-concat t p r h k e) ∙ length-append (value_of t p (row_at t r).a) (value_of t p (row_at t r).b) ∙ ap₂ ◌+◌ la lb ∙ sym (width_concat t r h k e)
        go (is_extract e) =
            let named = extract_names t r (row_at t r) (kept_names t r k) e in
            let la = before (row_at t r).a named.earlier (omega (arith, named.earlier)) in
            let bounds = kept_bounds t r k e in
            ap length (value-extract t p r h k e)
            ∙ extract-length (value_of t p (row_at t r).a) (row_at t r).b (row_at t r).c bounds.1 (omega (arith, la, bounds.0))
            ∙ sym (width_extract t r h e)
        go (is_equation e) = ap length (value_equation t p r h e) ∙ sym (width_equation t r h e)
