-- `is_not` meets its contract: each way in which it ends has its law in proofs/Comparing.antt. Assumes nothing.
use mathlib.Core.Path.{refl, sym, ap, ◌∙◌}
use mathlib.Core.Bool.{not, not-not}
use native.Mathlib.Omega.{arith}
use borrow.Author.Tests.{eqb-true, eq-eqb, ne_eqb}
use Rattle.laws.proofs.Bools.{not_both}
use Rattle.matcher.proofs.Comparing.{no_answer, other_count, compared}
use Rattle.matcher.proofs.is_not.Goals as goal
use Rattle.matcher.proofs.is_not.Goals.{then-found-ne2, else-found-ne2}

pub returns-then-answer-found : goal.returns-then-answer-found
returns-then-answer-found c =
    λ fit placed wide form.
    let solved = c.solve_placed-found.ensures placed wide form fit in
    elim c.if-found-ne2.branch [
      | then-found-ne2 w ↦ no_answer _ _ _ _ placed.numbered.accepted (omega (arith, fit, wide)) _ solved (λ e. omega (arith, e, w.if-found-ne2.true)) _ c.if-answer-found.true
      | else-found-ne2 w ↦ other_count _ _ _ _ placed.numbered.accepted (omega (arith, fit, wide)) _ solved (omega (arith, w.if-found-ne2.false))
          (λ e. not_both (sym w.value-is ∙ c.if-answer-found.true) (ap not (eq-eqb _ _ e))) _ c.if-answer-found.true
    ]

pub returns-else-answer-found : goal.returns-else-answer-found
returns-else-answer-found c =
    λ fit placed wide form.
    let solved = c.solve_placed-found.ensures placed wide form fit in
    elim c.if-found-ne2.branch [
      | then-found-ne2 w ↦ absurd (not_both (w.value-is ∙ ap not (ne_eqb _ _ (λ e. omega (arith, e, w.if-found-ne2.true)))) c.if-answer-found.false)
      | else-found-ne2 w ↦ compared _ _ _ _ placed.numbered.accepted (omega (arith, fit, wide)) _ solved (omega (arith, w.if-found-ne2.false))
          (eqb-true _ _ (sym (not-not _) ∙ ap not (sym w.value-is ∙ c.if-answer-found.false))) c.differ.result c.differ.ensures _ refl
    ]
