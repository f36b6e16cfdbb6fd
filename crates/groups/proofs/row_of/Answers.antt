-- `row_of` meets its contract: each of the three numbers was compared. Assumes nothing.
use mathlib.Core.Path.{sym, ◌∙◌}
use borrow.Author.Tests.{eqb-true, eqb-false}
use Rattle.groups.proofs.Keys.{other_shift, other_second, first_tells}
use Rattle.groups.proofs.row_of.Goals as goal
use Rattle.groups.proofs.row_of.Goals.{then-plan-at, else-plan-at}

pub returns-then-plan-at-2 : goal.returns-then-plan-at-2
returns-then-plan-at-2 c =
    let a = c.args in
    elim c.if-plan-at.branch [
      | then-plan-at w ↦ first_tells a.plan.now a.x a.y a.shift a.g c.from.result c.from.ensures (eqb-true _ _ (sym w.value-is ∙ c.if-plan-at-2.true)) w.if-plan-at.true
      | else-plan-at w ↦ absurd (w.if-plan-at.false (eqb-true _ _ (sym w.value-is ∙ c.if-plan-at-2.true)))
    ]

pub returns-else-plan-at-2 : goal.returns-else-plan-at-2
returns-else-plan-at-2 c =
    let a = c.args in
    elim c.if-plan-at.branch [
      | then-plan-at w ↦ c.if-plan-at-2.false ∙ other_second a.plan.now a.x a.y a.shift a.g c.from.result c.from.ensures (eqb-false _ _ (sym w.value-is ∙ c.if-plan-at-2.false))
      | else-plan-at w ↦ c.if-plan-at-2.false ∙ other_shift a.plan.now a.x a.y a.shift a.g c.from.result c.from.ensures w.if-plan-at.false
    ]
