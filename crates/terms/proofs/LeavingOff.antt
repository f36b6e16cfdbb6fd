-- Equations left off: each is the row that says nothing, which changes no width, no value, no total and no rule. First of all tables that
-- differ at most in what their equations say, then of the equations that a test picks. Assumes nothing.
use mathlib.Core.Path.{◌≡◌, refl, sym, ◌∙◌, ap, ap₂}
use mathlib.Core.Bool.{Bool, true, false, cond}
use mathlib.Core.List.{List, [], ◌∷◌, ◌++◌}
use Prim.Native.Nat.{ℕ, zero, suc, ◌+◌, ◌<◌}
use native.Mathlib.Omega.{arith}
use lib.ListN.{length, drop}
use Rattle.laws.specs.Lists.{count_up}
use Rattle.terms.specs.declared.Row.{Row}
use Rattle.terms.specs.Table.{row_at, by_kind, by_rows, width_in, widths_of, bits_of, value_in, values_of, sources_of, silent_row, leaving_off}
use Rattle.terms.specs.Faults.{breaks13, breaks14, breaks15, breaks40, breaks16, unused_column, misnamed, wrong_width, wrong_value, wrong_bounds}
use Rattle.terms.specs.Sound.{Sound}
use Rattle.terms.proofs.Widths.{bits_snoc}
use Rattle.terms.proofs.Faults.{Kept, kept, kept_names, unbroken, equation_names, term_named}
use Rattle.terms.proofs.Alike.{AlikeRow, Alike, head_alike, tail_alike, alike_use, alike_kinds, alike_bits_in, alike_bits, totals_same, kinds_same, kept_same}

-- ---- tables that differ at most in what their equations say
over_rows : {A : Type 0} (f : List Row → List A → Row → A)
    → ((b c : List Row) (made : List A) (s r : Row) → bits_of b ≡ bits_of c → AlikeRow 4 s r → f b made s ≡ f c made r)
    → (b c : List Row) (made : List A) (ss rs : List Row) → bits_of b ≡ bits_of c → Alike 4 ss rs → by_rows f b made ss ≡ by_rows f c made rs
unfolding by_rows
over_rows f same b c made [] [] e a = refl
over_rows f same b c made [] (r ∷ rs) e a = absurd (omega (arith, a.count))
over_rows f same b c made (s ∷ ss) [] e a = absurd (omega (arith, a.count))
over_rows {A} f same b c made (s ∷ ss) (r ∷ rs) e a =
    let h = head_alike 4 s r ss rs a in
    let bits : bits_of (b ++ (s ∷ [])) ≡ bits_of (c ++ (r ∷ [])) = bits_snoc b s ∙ ap₂ ◌+◌ e (alike_bits_in 4 (omega arith) s r h) ∙ sym (bits_snoc c r) in
    ap (λ (x : A). by_rows f (b ++ (s ∷ [])) (made ++ (x ∷ [])) ss) (same b c made s r e h)
    ∙ over_rows f same (b ++ (s ∷ [])) (c ++ (r ∷ [])) (made ++ (f c made r ∷ [])) ss rs bits (tail_alike 4 s r ss rs a)

width_alike : (ws : List ℕ) (s r : Row) → AlikeRow 4 s r → width_in ws s ≡ width_in ws r
unfolding width_in by_kind
width_alike ws s r a = alike_use 4 (width_in ws) s r a (λ x e y f. rw (e, f))

value-alike : (p : List ℕ) (b c : List Row) (vs : List (List ℕ)) (s r : Row) → bits_of b ≡ bits_of c → AlikeRow 4 s r → value_in p b vs s ≡ value_in p c vs r
unfolding value_in by_kind
value-alike p b c vs s r n a = alike_use 4 (value_in p b vs) s r a (λ x e y f. rw (e, f)) ∙ rw n

pub alike_widths : (s t : List Row) → Alike 4 s t → widths_of s ≡ widths_of t
unfolding widths_of
alike_widths s t a = over_rows (λ before ws r. width_in ws r) (λ b c ws x y e h. width_alike ws x y h) [] [] [] s t refl a

pub alike_values : (s t : List Row) → Alike 4 s t → (p : List ℕ) → values_of s p ≡ values_of t p
unfolding values_of
alike_values s t a p = over_rows (value_in p) (value-alike p) [] [] [] s t refl a

pub alike_sources : (s t : List Row) → Alike 4 s t → sources_of s ≡ sources_of t
unfolding sources_of
alike_sources s t a = alike_values s t a (count_up 2 (bits_of s)) ∙ ap (λ (n : ℕ). values_of t (count_up 2 n)) (alike_bits 4 (omega arith) s t a)

-- ---- the row that says nothing

-- in place of an equation of a table none of whose rows breaks a rule it breaks none
module _ (s t : List Row) (alike : Alike 4 s t) (sound : Sound t) (r : ℕ) (h : r < length t) (equation : (row_at t r).kind ≡ 4) (e : row_at s r ≡ silent_row) where
  behind_first : 0 < r
  behind_first = omega (arith, (equation_names t r (row_at t r) (kept_names t r (kept t r (sound r h))) equation).0.earlier)

  first_term : (row_at s 0).kind ≡ 4 → ⊥
  first_term f =
      let k : (row_at t 0).kind ≡ 4 = sym (alike_kinds 4 s t alike 0) ∙ f in
      absurd (omega (arith, (equation_names t 0 (row_at t 0) (kept_names t 0 (kept t 0 (sound 0 (omega (arith, behind_first))))) k).0.earlier))

  pub silent_kept : Kept s r
  unfolding breaks13 breaks14 breaks15 breaks40 breaks16 unused_column misnamed wrong_width wrong_value wrong_bounds by_kind
  silent_kept =
      let k = kept t r (sound r h) in
      let named = term_named s r 0 (record { earlier = behind_first; no_equation = first_term }) in
      record {
        kept12 = kinds_same 4 (omega arith) s t alike r ∙ k.kept12;
        kept13 = rw e;
        kept14 = rw (e, named);
        kept15 = rw e;
        kept40 = rw e;
        kept16 = rw e;
        kept17 = totals_same 4 (omega arith) s t alike r ∙ k.kept17;
      }

-- ---- the rows that a test picks are left off
module _ (picked : Row → List Row → Bool) where
  pub off_count : (t : List Row) → length (leaving_off picked t) ≡ length t
  unfolding leaving_off
  off_count [] = refl
  off_count (r ∷ rs) = ap suc (off_count rs)

  pub off_row : (t : List Row) (r : ℕ) → r < length t → row_at (leaving_off picked t) r ≡ cond (picked (row_at t r) (drop (suc r) t)) silent_row (row_at t r)
  unfolding leaving_off
  off_row [] r h = absurd (omega arith)
  off_row (x ∷ t) zero h = refl
  off_row (x ∷ t) (suc r) h = off_row t r (omega arith)

  -- they are equations
  module _ (equations : (r : Row) (behind : List Row) → picked r behind ≡ true → r.kind ≡ 4) where
    one_alike : (r : Row) (behind : List Row) → AlikeRow 4 (cond (picked r behind) silent_row r) r
    one_alike r behind = go (picked r behind) refl
      where
        go : (b : Bool) → picked r behind ≡ b → AlikeRow 4 (cond b silent_row r) r
        go true e = let k = equations r behind e in record { kind_is = sym k; same = λ n. absurd (n k) }
        go false e = record { kind_is = refl; same = λ n. refl }

    pub off_alike : (t : List Row) → Alike 4 (leaving_off picked t) t
    off_alike t = record { count = off_count t; each = λ r h. rw (off_row t r h) (one_alike (row_at t r) (drop (suc r) t)) }

    -- what is left breaks no rule where the table breaks none
    pub off_sound : (t : List Row) → Sound t → Sound (leaving_off picked t)
    off_sound t sound r l = unbroken s r (go (picked (row_at t r) (drop (suc r) t)) refl)
      where
        s : List Row
        s = leaving_off picked t

        h : r < length t
        h = omega (arith, off_count t)

        go : (b : Bool) → picked (row_at t r) (drop (suc r) t) ≡ b → Kept s r
        go true e = silent_kept s t (off_alike t) sound r h (equations (row_at t r) (drop (suc r) t) e) (off_row t r h ∙ rw e)
        go false e = kept_same 4 (omega arith) s t (off_alike t) (alike_widths s t (off_alike t)) r (off_row t r h ∙ rw e) (kept t r (sound r h))
