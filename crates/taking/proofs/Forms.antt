-- The two buffers of forms while equations are taken: after each row they are what writing the forms left there. Assumes nothing.
use mathlib.Core.Path.{◌≡◌, refl, sym, ap, ◌∙◌}
use mathlib.Core.Logic.{◌≢◌}
use mathlib.Core.List.{List}
use Prim.Native.Nat.{ℕ, zero, suc, ◌+◌, ◌-◌, ◌≤◌, ◌<◌, min}
use native.Mathlib.Omega.{arith}
use native.Mathlib.Nat.{zero-add, suc-add}
use native.Mathlib.Numerals.{add-one}
use Rattle.terms.specs.declared.Row.{Row}
use Rattle.terms.specs.Table.{row_at}
use Rattle.terms.proofs.RowKinds.{of_term}
use Rattle.sides.specs.inner.Sides.{left_side, right_side, side_written, SidesWritten}
use Rattle.terms.proofs.NextEquation.{Passed}
use Rattle.taking.specs.inner.Equations.{forms_written, FormsLeft}

-- a row that is no equation writes nothing
side_none : (side : List Row → Row → List ℕ) (t : List Row) (r : ℕ) → (row_at t r).kind ≢ 4 → (old : List ℕ) → side_written side t r old ≡ old
unfolding side_written
side_none side t r n old = of_term (row_at t r) _ old n

forms_past : (side : List Row → Row → List ℕ) (t : List Row) (old : List ℕ) (from n d : ℕ)
    → ((i : ℕ) → from + n ≤ i → i < from + (d + n) → (row_at t i).kind ≢ 4) → forms_written side t from (d + n) old ≡ forms_written side t from n old
unfolding forms_written
forms_past side t old from n zero none = ap (λ (k : ℕ). forms_written side t from k old) (zero-add n)
forms_past side t old from n (suc d) none =
    ap (λ (k : ℕ). forms_written side t from k old) (suc-add d n)
    ∙ side_none side t (from + (d + n)) (none (from + (d + n)) (omega arith) (omega arith)) (forms_written side t from (d + n) old)
    ∙ forms_past side t old from n d (λ i a b. none i a (omega arith))

-- after the rows from `from` on and before row n, which is at most `to`
pub record Standing (t : List Row) (from to : ℕ) (left₀ left right₀ right : List ℕ) (n : ℕ) : Type 0 where
  pub forth : from ≤ n
  pub most : n ≤ to
  pub left_is : left ≡ forms_written left_side t from (n - from) left₀
  pub right_is : right ≡ forms_written right_side t from (n - from) right₀

pub standing_first : (t : List Row) (from to : ℕ) (left right : List ℕ) → from ≤ to → Standing t from to left left right right from
unfolding forms_written
standing_first t from to left right l =
    let z : from - from ≡ 0 = omega arith in
    record { forth = omega arith; most = l; left_is = rw z refl; right_is = rw z refl }

module _ (t : List Row) (from to : ℕ) (left₀ left right₀ right : List ℕ) (r : ℕ) (s : Standing t from to left₀ left right₀ right r) where
  pub standing_next : (n : ℕ) → Passed t r to n → Standing t from to left₀ left right₀ right n
  standing_next n p =
      let e : n - r + (r - from) ≡ n - from = omega (arith, p.forth, s.forth) in
      let same : (side : List Row → Row → List ℕ) (old : List ℕ) → forms_written side t from (r - from) old ≡ forms_written side t from (n - from) old =
      λ side old.
      sym (forms_past side t old from (r - from) (n - r) (λ i a b. p.none i (omega (arith, a, s.forth)) (omega (arith, b, e, s.forth, p.forth))))
      ∙ ap (λ (m : ℕ). forms_written side t from m old) e in
      record {
        forth = omega (arith, s.forth, p.forth);
        most = p.most;
        left_is = s.left_is ∙ same left_side left₀;
        right_is = s.right_is ∙ same right_side right₀;
      }

  -- the sides of row r were written
  pub standing_more : (left' right' : List ℕ) (w : ℕ) → SidesWritten t r left left' right right' w → r < to → Standing t from to left₀ left' right₀ right' (suc r)
  unfolding forms_written
  standing_more left' right' w k l =
      let more : suc r - from ≡ suc (r - from) = omega (arith, s.forth) in
      let here : from + (r - from) ≡ r = omega (arith, s.forth) in
      record {
        forth = omega (arith, s.forth);
        most = l;
        left_is = rw (more, here) (k.left_is ∙ ap (side_written left_side t r) s.left_is);
        right_is = rw (more, here) (k.right_is ∙ ap (side_written right_side t r) s.right_is);
      }

  pub standing_on : (left' right' : List ℕ) (w : ℕ) → SidesWritten t r left left' right right' w → r < to → Standing t from to left₀ left' right₀ right' (r + 1)
  standing_on left' right' w k l = rw (add-one r) (standing_more left' right' w k l)

  -- no row is left
  pub standing_end : to ≤ r → FormsLeft t from to left₀ left right₀ right r
  standing_end l =
      let m : min (suc r) to - from ≡ r - from = omega (arith, s.most) in
      record { left_is = rw m s.left_is; right_is = rw m s.right_is }

-- two different fixed bits met in row r
pub standing_conflict : (t : List Row) (from to : ℕ) (left₀ left right₀ right : List ℕ) (r : ℕ)
    → Standing t from to left₀ left right₀ right (suc r) → FormsLeft t from to left₀ left right₀ right r
standing_conflict t from to left₀ left right₀ right r s =
    let m : min (suc r) to - from ≡ suc r - from = omega (arith, s.most) in
    record { left_is = rw m s.left_is; right_is = rw m s.right_is }
