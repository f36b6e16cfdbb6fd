-- What revised equations say of the assignments that satisfy a table (document 02, (vii)): leaving off the revised ones changes nothing, and an
-- equation behind a table takes the place of the one of its line. Assumes nothing.
use mathlib.Core.Path.{◌≡◌, refl, sym, ◌∙◌, ap, ap₂}
use mathlib.Core.Bool.{Bool, ◌&&◌, and-true, and_assoc}
use mathlib.Core.List.{List, [], ◌∷◌, ◌++◌}
use Prim.Native.Nat.{ℕ, zero, suc, ◌<◌}
use lib.ListN.{get_or}
use Rattle.laws.proofs.Bools.{and_parts, and_both}
use Rattle.terms.specs.declared.Row.{Row}
use Rattle.terms.specs.Table.{rows_of, by_kind, value_in, values_of, sides_agree, all_rows, counting, satisfies}
use Rattle.terms.specs.Faults.{Accepted, first_fault}
use Rattle.terms.specs.Counting.{LeftOff, without_line, TakesItsPlace}
use Rattle.terms.proofs.ByRows.{rows_snoc}
use Rattle.terms.proofs.LeavingOff.{alike_values}
use Rattle.terms.proofs.Satisfies.{agree_at, agree_of}
use Rattle.terms.proofs.Counting.{unmoved, counting-alike, counting-distinct, counting_once, counting_accepted, without_distinct, without_alike, counting-behind, counting_plain}

-- the same assignments satisfy what counts
pub counting-satisfies : (t : List Row) (p : List ℕ) → satisfies (counting t) p ≡ satisfies t p
unfolding satisfies
counting-satisfies t p = rw (counting_once t, alike_values (counting t) t (counting-alike t) p)

-- (d) what counts in an accepted table is an accepted table all of whose equations count
pub left-off : (table : List ℕ) → first_fault table ≡ Accepted → LeftOff table
left-off table accepted =
    record {
      accepted = counting_accepted table accepted;
      distinct = counting-distinct (rows_of table);
      once = counting_once (rows_of table);
      same_patterns = counting-satisfies (rows_of table);
    }

-- ---- (f)

all_same : (f g : Row → Bool) → ((r : Row) → f r ≡ g r) → (t : List Row) → all_rows f t ≡ all_rows g t
unfolding all_rows
all_same f g h [] = refl
all_same f g h (r ∷ t) = ap₂ ◌&&◌ (h r) (all_same f g h t)

all-behind : (f : Row → Bool) (t : List Row) (e : Row) → all_rows f (t ++ (e ∷ [])) ≡ all_rows f t && f e
unfolding all_rows
all-behind f [] e = and-true (f e)
all-behind f (r ∷ t) e = ap (λ (b : Bool). f r && b) (all-behind f t e) ∙ sym (and_assoc (f r) (all_rows f t) (f e))

-- an empty value behind the others is what is read there anyway
read_blank : (vs : List (List ℕ)) (i : ℕ) → get_or (vs ++ ([] ∷ [])) i [] ≡ get_or vs i []
read_blank [] zero = refl
read_blank [] (suc i) = refl
read_blank (v ∷ vs) zero = refl
read_blank (v ∷ vs) (suc i) = read_blank vs i

agree_blank : (vs : List (List ℕ)) (r : Row) → sides_agree (vs ++ ([] ∷ [])) r ≡ sides_agree vs r
unfolding sides_agree
agree_blank vs r = rw (read_blank vs r.a, read_blank vs r.b)

-- what counts with the equation behind the table are other rows and the equation
module _ (t : List Row) (e : Row) (p : List ℕ) (equation : e.kind ≡ 4) where
  values_behind : values_of (t ++ (e ∷ [])) p ≡ values_of t p ++ ([] ∷ [])
  unfolding values_of value_in by_kind
  values_behind = rows_snoc (value_in p) t e ∙ rw equation

  rest_and : (rest : List Row) → counting (t ++ (e ∷ [])) ≡ rest ++ (e ∷ [])
      → satisfies (t ++ (e ∷ [])) p ≡ all_rows (sides_agree (values_of t p)) rest && sides_agree (values_of t p) e
  unfolding satisfies
  rest_and rest counts =
      ap₂ (λ (vs : List (List ℕ)) (rs : List Row). all_rows (sides_agree vs) rs) values_behind counts
      ∙ all_same (sides_agree (values_of t p ++ ([] ∷ []))) (sides_agree (values_of t p)) (agree_blank (values_of t p)) (rest ++ (e ∷ []))
      ∙ all-behind (sides_agree (values_of t p)) rest e

  -- without a line number they are all that counted before
  pub plain_behind : e.c ≡ 0 → satisfies (t ++ (e ∷ [])) p ≡ satisfies t p && sides_agree (values_of t p) e
  plain_behind plain = rest_and (counting t) (counting_plain e plain t) ∙ unfold satisfies in refl

module _ (t : List Row) (e : Row) (p : List ℕ) (equation : e.kind ≡ 4) (above : 0 < e.c) where
  rest : List Row
  rest = without_line e.c (counting t)

  rest_satisfies : satisfies rest p ≡ all_rows (sides_agree (values_of t p)) rest
  unfolding satisfies rest
  rest_satisfies =
      rw (
        (unmoved rest).distinct_lines (without_distinct e.c (counting t) (counting-distinct t)),
        alike_values rest (counting t) (without_alike e.c (counting t)) p,
        alike_values (counting t) t (counting-alike t) p,
      )

  behind-satisfies : satisfies (t ++ (e ∷ [])) p ≡ satisfies rest p && sides_agree (values_of t p) e
  unfolding rest
  behind-satisfies =
      rest_and t e p equation rest (counting-behind e equation above t)
      ∙ ap (λ (b : Bool). b && sides_agree (values_of t p) e) (sym rest_satisfies)

  -- an equation behind a table takes the place of the one of its line
  pub takes_its_place : TakesItsPlace t e p
  unfolding rest
  takes_its_place =
      record {
        to = λ h.
            let both = and_parts (satisfies rest p) (sides_agree (values_of t p) e) (sym behind-satisfies ∙ h) in
            (both.0, agree_at (values_of t p) e equation both.1);
        of = λ h. behind-satisfies ∙ and_both (satisfies rest p) (sides_agree (values_of t p) e) h.0 (agree_of (values_of t p) e (λ k. h.1));
      }
