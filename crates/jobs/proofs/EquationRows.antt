-- The rows of a table's equations, one after the other: equation k + 1 stands in the lowest equation row behind that of equation k. Assumes nothing.
use mathlib.Core.Path.{◌≡◌, refl, sym, ◌∙◌, ap}
use mathlib.Core.Bool.{Bool, true, false, cond}
use mathlib.Core.List.{List, [], ◌∷◌}
use mathlib.Core.Logic.{◌≢◌, ⊎_elim}
use Prim.Native.Nat.{ℕ, zero, suc, ◌+◌, ◌-◌, ◌<◌, ◌≤◌}
use native.Mathlib.Omega.{arith}
use lib.Dec.{eqb}
use lib.ListN.{length, take}
use lib.Seq.{take-length}
use borrow.Author.Tests.{eqb-true, eqb-false, eq-eqb, ne_eqb}
use Rattle.laws.specs.Lists.{least}
use Rattle.laws.proofs.Bools.{one_most}
use Rattle.laws.proofs.Numbers.{lt_or_le, dec_eq}
use Rattle.laws.proofs.Least.{least_at, least_within, least-passed}
use Rattle.terms.specs.declared.Row.{Row}
use Rattle.terms.specs.Table.{row_at, count_kind, next_equation}
use Rattle.terms.proofs.NextEquation.{Passed, next_passed}
use Rattle.jobs.specs.Prefix.{equation_from}
use Rattle.jobs.specs.Claims.{equation_row}

-- what a search stops at before its end passes
least_hit : (f : ℕ → Bool) (k d : ℕ) → least f k d < k + d → f (least f k d) ≡ true
unfolding least
least_hit f k zero l = absurd (omega arith)
least_hit f k (suc d) l = go (f k) refl l (λ (m : least f (suc k) d < suc k + d). least_hit f (suc k) d m)
  where
    go : (b : Bool) → f k ≡ b → cond b k (least f (suc k) d) < k + suc d → (least f (suc k) d < suc k + d → f (least f (suc k) d) ≡ true)
        → f (cond b k (least f (suc k) d)) ≡ true
    go true e m r = e
    go false e m r = r (omega arith)

-- the next equation is one, or there is none
pub next_is : (t : List Row) (r : ℕ) → r ≤ length t → equation_from t r < length t → (row_at t (equation_from t r)).kind ≡ 4
unfolding next_equation
next_is t r l h = eqb-true _ _ (least_hit (λ (i : ℕ). eqb (row_at t i).kind 4) r (length t - r) (omega arith))

pub next_within : (t : List Row) (r : ℕ) → r ≤ length t → Passed t r (length t) (equation_from t r)
next_within t r l = next_passed t r (length t) (length t) (equation_from t r) l refl refl

-- ---- how many equations stand before row r
abbrev pub before : List Row → ℕ → ℕ
before t r = count_kind 4 (take r t)

before_more : (t : List Row) (r : ℕ) → r < length t → before t (suc r) ≡ before t r + cond {A = ℕ} (eqb (row_at t r).kind 4) 1 0
unfolding count_kind
before_more [] r l = absurd (omega arith)
before_more (x ∷ t) zero l = omega arith
before_more (x ∷ t) (suc r) l = omega (arith, before_more t r (omega arith))

module _ (t : List Row) where
  before_equation : (r : ℕ) → r < length t → (row_at t r).kind ≡ 4 → before t (suc r) ≡ suc (before t r)
  before_equation r l e = let m : cond {A = ℕ} (eqb (row_at t r).kind 4) 1 0 ≡ 1 = rw (eq-eqb (row_at t r).kind 4 e) in omega (arith, before_more t r l)

  before_term : (r : ℕ) → r < length t → (row_at t r).kind ≢ 4 → before t (suc r) ≡ before t r
  before_term r l n = let m : cond {A = ℕ} (eqb (row_at t r).kind 4) 1 0 ≡ 0 = rw (ne_eqb (row_at t r).kind 4 n) in omega (arith, before_more t r l)

  before_step : (r : ℕ) → r < length t → (before t r ≤ before t (suc r)) × (before t (suc r) ≤ suc (before t r))
  before_step r l = let m = one_most (eqb (row_at t r).kind 4) in (omega (arith, before_more t r l), omega (arith, before_more t r l))

  -- more rows have no fewer
  pub before_rises : (a d : ℕ) → a + d ≤ length t → before t a ≤ before t (a + d)
  before_rises a zero l = let e : a + 0 ≡ a = omega arith in rw e (omega arith)
  before_rises a (suc d) l = let e : a + suc d ≡ suc (a + d) = omega arith in rw e (omega (arith, before_rises a d (omega arith), (before_step (a + d) (omega arith)).0))

  -- as many where none stands between
  before_gap : (a d : ℕ) → a + d ≤ length t → ((i : ℕ) → a ≤ i → i < a + d → (row_at t i).kind ≢ 4) → before t (a + d) ≡ before t a
  before_gap a zero l none = let e : a + 0 ≡ a = omega arith in ap (before t) e
  before_gap a (suc d) l none =
      let e : a + suc d ≡ suc (a + d) = omega arith in
      rw e (before_term (a + d) (omega arith) (none (a + d) (omega arith) (omega arith)) ∙ before_gap a d (omega arith) (λ i m n. none i m (omega arith)))

  before_next : (r : ℕ) → r ≤ length t → before t (equation_from t r) ≡ before t r
  before_next r l =
      let it = next_within t r l in
      let e : equation_from t r ≡ r + (equation_from t r - r) = omega (arith, it.forth) in
      ap (before t) e ∙ before_gap r (equation_from t r - r) (omega (arith, it.forth, it.most)) (λ i m n. it.none i m (omega (arith, it.forth)))

  pub before_all : before t (length t) ≡ count_kind 4 t
  before_all = ap (count_kind 4) (take-length t)

  -- a row that is an equation's, or the number of rows, is the row of the equation that so many stand before
  pub row_of : (r : ℕ) → r ≤ length t → (r < length t → (row_at t r).kind ≡ 4) → equation_row t (before t r) ≡ r
  unfolding equation_row
  row_of r l e =
      least_at (λ i. eqb (before t (suc i)) (suc (before t r))) 0 (length t) r l
      (λ h. let z : 0 + r ≡ r = omega arith in rw z (eq-eqb (before t (suc r)) (suc (before t r)) (before_equation r h (e h))))
      (λ m a b.
      let d : suc m + (r - suc m) ≡ r = omega arith in
      let k : before t (suc m) ≤ before t r = rw d at (before_rises (suc m) (r - suc m) (omega arith)) in
      ne_eqb (before t (suc m)) (suc (before t r)) (λ q. omega arith))
      ∙ omega arith

  pub row_next : (r : ℕ) → r ≤ length t → equation_row t (before t r) ≡ equation_from t r
  row_next r l =
      let it = next_within t r l in
      ap (equation_row t) (sym (before_next r l)) ∙ row_of (equation_from t r) it.most (next_is t r l)

  pub row_within : (k : ℕ) → equation_row t k ≤ length t
  unfolding equation_row
  row_within k = omega (arith, (least_within (λ r. eqb (before t (suc r)) (suc k)) 0 (length t)).1)

  -- equation k is an equation, and k stand before it
  fewer : (k : ℕ) → ((r : ℕ) → r < equation_row t k → before t (suc r) ≢ suc k) → (r : ℕ) → r ≤ equation_row t k → before t r ≤ k
  unfolding count_kind
  fewer k other zero l = omega arith
  fewer k other (suc r) l = omega (arith, fewer k other r (omega arith), (before_step r (omega (arith, row_within k))).1, other r (omega arith))

  pub row_before : (k : ℕ) → before t (equation_row t k) ≤ k
  row_before k = fewer k (λ r l. passed r l) (equation_row t k) (omega arith)
    where
      passed : (r : ℕ) → r < equation_row t k → before t (suc r) ≢ suc k
      passed r l = eqb-false _ _ (unfold equation_row in (least-passed (λ r. eqb (before t (suc r)) (suc k)) 0 (length t) r (omega arith) (unfold equation_row in l)))

  row_hit : (k : ℕ) → equation_row t k < length t → before t (suc (equation_row t k)) ≡ suc k
  unfolding equation_row
  row_hit k l = eqb-true _ _ (least_hit (λ r. eqb (before t (suc r)) (suc k)) 0 (length t) (omega arith))

  pub row-count : (k : ℕ) → equation_row t k < length t → before t (equation_row t k) ≡ k
  row-count k l = omega (arith, row_before k, row_hit k l, (before_step (equation_row t k) l).1)

  pub row_equation : (k : ℕ) → equation_row t k < length t → (row_at t (equation_row t k)).kind ≡ 4
  row_equation k l = ⊎_elim (λ e. e) (λ n. absurd (omega (arith, before_term (equation_row t k) l n, row_hit k l, row-count k l))) (dec_eq (row_at t (equation_row t k)).kind 4)

  -- the first, the next, and behind the last
  pub row-first : equation_row t 0 ≡ equation_from t 0
  unfolding count_kind
  row-first = row_next 0 (omega arith)

  pub row_step : (k : ℕ) → equation_row t k < length t → equation_row t (suc k) ≡ equation_from t (suc (equation_row t k))
  row_step k l = ap (equation_row t) (sym (row_hit k l)) ∙ row_next (suc (equation_row t k)) (omega arith)

  pub row_past : (k : ℕ) → count_kind 4 t ≤ k → equation_row t k ≡ length t
  row_past k l = ⊎_elim (λ m. absurd (omega (arith, row_hit k m, before_all, tail m))) (λ m. omega (arith, row_within k)) (lt_or_le (equation_row t k) (length t))
    where
      tail : equation_row t k < length t → before t (suc (equation_row t k)) ≤ before t (length t)
      tail m =
          let r = suc (equation_row t k) in
          let e : r + (length t - r) ≡ length t = omega arith in
          rw e at (before_rises r (length t - r) (omega arith))

  pub row_last : (k : ℕ) → equation_row t k ≡ length t → count_kind 4 t ≤ k
  row_last k e = omega (arith, row_before k, before_all, ap (before t) e)
