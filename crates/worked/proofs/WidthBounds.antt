-- Case 7 for a fill and for a join: as a variable, each is accepted at a width of 1 to 1,024 and refused 15 at any other. Assumes nothing.
use mathlib.Core.Path.{◌≡◌, refl, ◌∙◌, ap}
use mathlib.Core.Bool.{or-true}
use mathlib.Core.List.{[], ◌++◌}
use mathlib.Core.Logic.{◌⊎◌, inl, inr}
use Prim.Native.Nat.{ℕ, ◌+◌, ◌^◌, ◌≤◌, ◌<◌}
use native.Mathlib.Omega.{arith}
use borrow.Author.Tests.{le-ltb, lt-ltb, ne_eqb}
use Rattle.std.specs.Prelude.{Err}
use Rattle.terms.specs.declared.Fault.TheVariants.{Width}
use Rattle.terms.specs.Calls.{fault_record}
use Rattle.terms.specs.Faults.{Accepted, is_accepted, first_fault}
use Rattle.terms.proofs.Computed.{fault_computed, satisfies_computed}
use Rattle.answers.specs.Solve.{always_record}
use Rattle.worked.specs.Cases.{Solved, Refused, Holds, row, figures}
use Rattle.worked.proofs.Holding.{met_by_all, solved_case, refused_case}

-- A fill of the bit b.
module _ (b w : ℕ) where
  fill_accepted : b ≤ 1 → 1 ≤ w → w ≤ 1024 → first_fault (row 1 b w 0) ≡ Accepted
  unfolding fault_computed
  fill_accepted bit one most = rw (ne_eqb w 0 (λ e. omega arith), le-ltb 1024 w most, le-ltb 1 b bit)

  fill_refused : (w ≡ 0) ⊎ (1024 < w) → first_fault (row 1 b w 0) ≡ Err (Width 0)
  unfolding fault_computed
  fill_refused (inl e) = rw e
  fill_refused (inr h) = rw (lt-ltb 1024 w h, or-true)

  pub fill-any : b ≤ 1 → 1 ≤ w → w ≤ 1024 → Holds (Solved (row 1 b w 0) (figures 0 0 0 0 0 0) [] 1)
  unfolding satisfies_computed
  fill-any bit one most =
      solved_case (row 1 b w 0) (figures 0 0 0 0 0 0) (fill_accepted bit one most) (met_by_all (row 1 b w 0) (λ p. refl)) [] refl

  pub fill_refused_any : (w ≡ 0) ⊎ (1024 < w) → Holds (Refused (row 1 b w 0) (figures 15 0 0 0 0 0))
  fill_refused_any h =
      let e = fill_refused h in
      refused_case (row 1 b w 0) (figures 15 0 0 0 0 0) (ap is_accepted e) (ap fault_record e)

-- A join of two variables.
module _ (v w : ℕ) (one : 1 ≤ v) (most : v ≤ 1024) (one' : 1 ≤ w) (most' : w ≤ 1024) where
  join_accepted : v + w ≤ 1024 → first_fault (row 0 v 0 0 ++ row 0 w 0 0 ++ row 2 0 1 0) ≡ Accepted
  unfolding fault_computed
  join_accepted h =
      rw (
        ne_eqb v 0 (λ e. omega arith),
        le-ltb 1024 v most,
        le-ltb 4096 (v + 0) (omega arith),
        ne_eqb w 0 (λ e. omega arith),
        le-ltb 1024 w most',
        le-ltb 4096 (v + (w + 0)) (omega arith),
        ne_eqb (v + w) 0 (λ e. omega arith),
        le-ltb 1024 (v + w) h,
      )

  join_refused : 1024 < v + w → first_fault (row 0 v 0 0 ++ row 0 w 0 0 ++ row 2 0 1 0) ≡ Err (Width 2)
  unfolding fault_computed
  join_refused h =
      rw (
        ne_eqb v 0 (λ e. omega arith),
        le-ltb 1024 v most,
        le-ltb 4096 (v + 0) (omega arith),
        ne_eqb w 0 (λ e. omega arith),
        le-ltb 1024 w most',
        le-ltb 4096 (v + (w + 0)) (omega arith),
        lt-ltb 1024 (v + w) h,
        or-true,
      )

  pub join_any : v + w ≤ 1024
      → Holds (Solved (row 0 v 0 0 ++ row 0 w 0 0 ++ row 2 0 1 0) (figures 0 0 0 (v + w) 0 0) [] (2 ^ (v + w)))
  unfolding satisfies_computed
  join_any h =
      let bits : v + (w + 0) ≡ v + w = omega arith in
      solved_case (row 0 v 0 0 ++ row 0 w 0 0 ++ row 2 0 1 0) (figures 0 0 0 (v + w) 0 0) (join_accepted h)
      (met_by_all (row 0 v 0 0 ++ row 0 w 0 0 ++ row 2 0 1 0) (λ p. refl) ∙ ap always_record bits) [] refl

  pub join_refused_any : 1024 < v + w → Holds (Refused (row 0 v 0 0 ++ row 0 w 0 0 ++ row 2 0 1 0) (figures 15 0 0 0 0 2))
  join_refused_any h =
      let e = join_refused h in
      refused_case (row 0 v 0 0 ++ row 0 w 0 0 ++ row 2 0 1 0) (figures 15 0 0 0 0 2) (ap is_accepted e) (ap fault_record e)
