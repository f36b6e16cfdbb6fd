-- Two solved tables with the same answer rows have the same patterns (document 02, (x) and (xii)): `same_answer` read backwards, through demand 2.
-- Assumes nothing.
use mathlib.Core.Path.{◌≡◌, sym, ◌∙◌, subst}
use mathlib.Core.Bool.{true, not}
use mathlib.Core.List.{List}
use Prim.Native.Nat.{ℕ}
use borrow.Author.Tests.{not-false}
use Rattle.laws.proofs.Bools.{same_test}
use Rattle.terms.specs.Assignments.{Assignment}
use Rattle.terms.specs.Faults.{Accepted, first_fault}
use Rattle.terms.specs.Table.{rows_of, bits_of, satisfies}
use Rattle.terms.proofs.Assignments.{assignment_length, every_false}
use Rattle.answers.specs.declared.AnswerRow.{AnswerRow}
use Rattle.answers.specs.Answer.{free_bits, instantiate}
use Rattle.answers.specs.Solve.{unsatisfiable, solved_rows, answer_record}
use Rattle.answers.proofs.Demands.{demand_2}
use Rattle.answers.proofs.OurSystem.{some_left}

-- an accepted table of outcome 2
abbrev Solved : List ℕ → Type 0
Solved table = (first_fault table ≡ Accepted) × ((answer_record (rows_of table)).outcome ≡ 2)

-- a pattern of the one is a filling of its rows, and so a pattern of the other
carried : (table other : List ℕ) → Solved table → Solved other → solved_rows (rows_of table) ≡ solved_rows (rows_of other)
    → (p : List ℕ) → Assignment (bits_of (rows_of table)) p → satisfies (rows_of table) p ≡ true
    → Assignment (bits_of (rows_of other)) p × (satisfies (rows_of other) p ≡ true)
carried table other h k e p a s =
    let F = (demand_2 table h.0 h.1).one_filling p a s in
    let bits : Assignment (free_bits (solved_rows (rows_of other))) F.filling = subst (λ (rows : List AnswerRow). Assignment (free_bits rows) F.filling) e F.bits in
    let gives : instantiate (solved_rows (rows_of other)) F.filling ≡ p = subst (λ (rows : List AnswerRow). instantiate rows F.filling ≡ p) e F.gives in
    subst (λ (q : List ℕ). Assignment (bits_of (rows_of other)) q × (satisfies (rows_of other) q ≡ true)) gives
    ((demand_2 other k.0 k.1).every_filling F.filling bits)

module _ (table other : List ℕ) (h : Solved table) (k : Solved other) (e : solved_rows (rows_of table) ≡ solved_rows (rows_of other)) where
  same_bits : bits_of (rows_of table) ≡ bits_of (rows_of other)
  unfolding unsatisfiable
  same_bits =
      let P = every_false (bits_of (rows_of table)) (λ p. not (satisfies (rows_of table) p)) (some_left (rows_of table) h.1) in
      sym (assignment_length P.1.0) ∙ assignment_length (carried table other h k e P.0 P.1.0 (not-false _ P.1.1)).0

  same_satisfies : (p : List ℕ) → Assignment (bits_of (rows_of table)) p → satisfies (rows_of table) p ≡ satisfies (rows_of other) p
  same_satisfies p a =
      same_test (satisfies (rows_of table) p) (satisfies (rows_of other) p) (λ s. (carried table other h k e p a s).1)
      (λ s. (carried other table k h (sym e) p (subst (λ (n : ℕ). Assignment n p) same_bits a) s).1)

-- Two accepted tables of outcome 2 whose answers have the same rows have as many variable bits, and an assignment satisfies the one exactly if it
-- satisfies the other.
pub same_rows_same_patterns : (table other : List ℕ) → first_fault table ≡ Accepted → first_fault other ≡ Accepted
    → (answer_record (rows_of table)).outcome ≡ 2 → (answer_record (rows_of other)).outcome ≡ 2 → solved_rows (rows_of table) ≡ solved_rows (rows_of other)
    → (bits_of (rows_of table) ≡ bits_of (rows_of other))
    × ((p : List ℕ) → Assignment (bits_of (rows_of table)) p → satisfies (rows_of table) p ≡ satisfies (rows_of other) p)
same_rows_same_patterns table other a b s t e = (same_bits table other (a, s) (b, t) e, same_satisfies table other (a, s) (b, t) e)
