-- The record of an accepted table of which no pattern is left at its last row, and one is left before. Assumes nothing.
use mathlib.Core.Path.{◌≡◌, refl, ◌∙◌, ap}
use mathlib.Core.Bool.{true, false, not}
use mathlib.Core.List.{List, []}
use Prim.Native.Nat.{ℕ, suc, ◌<◌}
use native.Mathlib.Omega.{arith}
use lib.ListN.{length}
use Rattle.terms.specs.Assignments.{Assignment, every}
use Rattle.terms.specs.Faults.{Accepted, first_fault}
use Rattle.terms.specs.Table.{rows_of, bits_of, satisfies}
use Rattle.terms.proofs.Assignments.{assignment_length, every_of}
use Rattle.laws.proofs.Least.{least_is}
use Rattle.answers.specs.Solve.{unsatisfiable, unsat_row, satisfies_to, ties_to, answer_record}
use Rattle.answers.proofs.Tables.{not_valid}
use Rattle.worked.specs.Cases.{Solved, Holds, figures}
use Rattle.worked.proofs.Holding.{every_fails, solved_case}

module _ (table : List ℕ) (accepted : first_fault table ≡ Accepted) (r : ℕ) (at : suc r ≡ length (rows_of table))
    (whole : (p : List ℕ) → satisfies_to (rows_of table) r p ≡ satisfies (rows_of table) p)
    (none : (p : List ℕ) → length p ≡ bits_of (rows_of table) → satisfies (rows_of table) p ≡ false)
    (left : List ℕ) (bits : Assignment (bits_of (rows_of table)) left) (before : (i : ℕ) → i < r → satisfies_to (rows_of table) i left ≡ true) where
  never : unsatisfiable (rows_of table) ≡ true
  unfolding unsatisfiable
  never = every_of (bits_of (rows_of table)) (λ p. not (satisfies (rows_of table) p)) (λ p a. ap not (none p (assignment_length a)))

  row_is : unsat_row (rows_of table) ≡ r
  unfolding unsat_row
  row_is =
      least_is (λ i. every (bits_of (rows_of table)) (λ p. not (satisfies_to (rows_of table) i p))) (length (rows_of table)) 0 r (omega arith) (omega arith)
      (every_of (bits_of (rows_of table)) (λ p. not (satisfies_to (rows_of table) r p)) (λ p a. ap not (whole p ∙ none p (assignment_length a))))
      (λ i l. every_fails (bits_of (rows_of table)) (λ p. not (satisfies_to (rows_of table) i p)) left bits (ap not (before i l)))

  -- Never at that row, with the ties of the equations before it.
  pub never_at : (ties : ℕ) → ties_to (rows_of table) r ≡ ties → Holds (Solved table (figures 1 0 0 0 ties r) [] 0)
  unfolding answer_record
  never_at ties e =
      solved_case table (figures 1 0 0 0 ties r) accepted (rw (not_valid table accepted never, never, row_is, e) refl) [] refl
