-- The next equation of a table: what is left to search says what the whole search says, and no row passed is an equation. Assumes
-- nothing.
use mathlib.Core.Path.{◌≡◌, refl}
use mathlib.Core.Bool.{Bool}
use mathlib.Core.List.{List}
use mathlib.Core.Logic.{◌≢◌}
use Prim.Native.Nat.{ℕ, suc, ◌+◌, ◌-◌, ◌≤◌, ◌<◌}
use native.Mathlib.Omega.{arith}
use native.Mathlib.Numerals.{add-one}
use lib.Dec.{eqb}
use borrow.Author.Tests.{eq-eqb, ne_eqb, eqb-false}
use Rattle.laws.specs.Lists.{least}
use Rattle.laws.proofs.Least.{least_within, least-passed}
use Rattle.terms.specs.declared.Row.{Row}
use Rattle.terms.specs.Table.{row_at, next_equation}

-- the search at an equation, at another row, and behind the last
module _ (t : List Row) (r rows : ℕ) where
  pub next_found : r < rows → (row_at t r).kind ≡ 4 → r ≡ next_equation t r rows
  unfolding next_equation least
  next_found l e =
      let m : rows - r ≡ suc (rows - suc r) = omega arith in
      rw (m, eq-eqb (row_at t r).kind 4 e) refl

  pub next_more : r < rows → (row_at t r).kind ≢ 4 → next_equation t (r + 1) rows ≡ next_equation t r rows
  unfolding next_equation least
  next_more l n =
      let m : rows - r ≡ suc (rows - suc r) = omega arith in
      rw (add-one r, m, ne_eqb (row_at t r).kind 4 n) refl

  pub next_end : rows ≤ r → r ≡ next_equation t r rows
  unfolding next_equation least
  next_end l =
      let m : rows - r ≡ 0 = omega arith in
      rw m refl

-- no search goes back
pub next_forth : (t : List Row) (from rows n : ℕ) → n ≡ next_equation t from rows → from ≤ n
unfolding next_equation
next_forth t from rows n e = omega (arith, (least_within (λ r. eqb (row_at t r).kind 4) from (rows - from)).0)

-- The rows of a table from one row to another, which is at most `to`: none of them is an equation.
pub record Passed (t : List Row) (from to n : ℕ) : Type 0 where
  pub forth : from ≤ n
  pub most : n ≤ to
  pub none : (i : ℕ) → from ≤ i → i < n → (row_at t i).kind ≢ 4

pub next_passed : (t : List Row) (from to rows n : ℕ) → from ≤ to → rows ≡ to → n ≡ next_equation t from rows → Passed t from to n
unfolding next_equation
next_passed t from to rows n l whole e =
    let test : ℕ → Bool = λ r. eqb (row_at t r).kind 4 in
    let w = least_within test from (rows - from) in
    record {
      forth = omega (arith, w.0);
      most = omega (arith, w.1);
      none = λ i a b. eqb-false _ _ (least-passed test from (rows - from) i a (omega arith));
    }
