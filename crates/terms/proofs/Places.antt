-- The first places of a table's variables: at the number of variables before a row it is the number of variable bits before it.
use mathlib.Core.Path.{◌≡◌, refl, sym, ◌∙◌, ap}
use mathlib.Core.Bool.{Bool, true, false}
use mathlib.Core.List.{List, [], ◌∷◌}
use Prim.Native.Nat.{ℕ, zero, suc, ◌+◌, ◌≤◌}
use native.Mathlib.Omega.{arith}
use lib.Dec.{eqb}
use lib.ListN.{take}
use borrow.Author.Tests.{eqb-true, eqb-false, eq-eqb, ne_eqb}
use Rattle.terms.specs.declared.Row.{Row}
use Rattle.terms.specs.Table.{bits_in, bits_of, count_kind}
use Rattle.terms.specs.inner.Places.{first_place}
use Rattle.terms.proofs.RowKinds.{of_variable, of_other, bits_variable, bits_other}

-- what a row adds in front
pub count_variable : (r : Row) (t : List Row) → r.kind ≡ 0 → count_kind 0 (r ∷ t) ≡ suc (count_kind 0 t)
unfolding count_kind
count_variable r t e = rw (eq-eqb r.kind 0 e) (omega arith)

pub count_other : (r : Row) (t : List Row) → (r.kind ≡ 0 → ⊥) → count_kind 0 (r ∷ t) ≡ count_kind 0 t
unfolding count_kind
count_other r t h = rw (ne_eqb r.kind 0 h) (omega arith)

pub place_first : (t : List Row) → first_place t 0 ≡ 0
unfolding first_place
place_first [] = refl
place_first (r ∷ t) = refl

pub place_variable : (r : Row) (t : List Row) (v : ℕ) → r.kind ≡ 0 → first_place (r ∷ t) (suc v) ≡ r.a + first_place t v
unfolding first_place
place_variable r t v e = of_variable r (r.a + first_place t v) (first_place t (suc v)) e

pub place_one : (r : Row) (t : List Row) → r.kind ≡ 0 → first_place (r ∷ t) 1 ≡ r.a
place_one r t e = place_variable r t 0 e ∙ omega (arith, place_first t)

pub place_other : (r : Row) (t : List Row) (v : ℕ) → (r.kind ≡ 0 → ⊥) → first_place (r ∷ t) v ≡ first_place t v
unfolding first_place
place_other r t zero h = sym (place_first t)
place_other r t (suc v) h = of_other r (r.a + first_place t v) (first_place t (suc v)) h

-- the variable that a row is, or the next one, begins behind the variable bits before the row
pub place-row : (t : List Row) (r : ℕ) → first_place t (count_kind 0 (take r t)) ≡ bits_of (take r t)
unfolding bits_of count_kind
place-row t zero = place_first t
place-row [] (suc r) = place_first []
place-row (x ∷ t) (suc r) = go (eqb x.kind 0) refl (place-row t r)
  where
    c : ℕ
    c = count_kind 0 (take r t)

    go : (b : Bool) → eqb x.kind 0 ≡ b → first_place t (count_kind 0 (take r t)) ≡ bits_of (take r t)
        → first_place (x ∷ t) (count_kind 0 (x ∷ take r t)) ≡ bits_in x + bits_of (take r t)
    go true e later =
        let k : x.kind ≡ 0 = eqb-true x.kind 0 e in
        ap (first_place (x ∷ t)) (count_variable x (take r t) k) ∙ place_variable x t c k ∙ omega (arith, bits_variable x k)
    go false e later =
        let k : x.kind ≡ 0 → ⊥ = eqb-false x.kind 0 e in
        ap (first_place (x ∷ t)) (count_other x (take r t) k) ∙ place_other x t c k ∙ omega (arith, bits_other x k)

-- and its number is at most that of the variables
pub count-part : (t : List Row) (r : ℕ) → count_kind 0 (take r t) ≤ count_kind 0 t
unfolding count_kind
count-part [] zero = omega arith
count-part [] (suc r) = omega arith
count-part (x ∷ t) zero = omega arith
count-part (x ∷ t) (suc r) = omega (arith, count-part t r)
