-- `meets` meets its contract: the plan is long enough, and its rows' tests pass. Assumes nothing.
use mathlib.Core.Path.{sym, ◌∙◌}
use native.Mathlib.Omega.{arith}
use borrow.Author.Tests.{leb-true}
use Rattle.words.proofs.Testing.{plan_short, plan_broken, plan_passed}
use Rattle.words.proofs.meets.Goals as goal
use Rattle.words.proofs.meets.Goals.{then-plan-ge-PLAN, else-plan-ge-PLAN}

pub returns-then-fixed_meet : goal.returns-then-fixed_meet
returns-then-fixed_meet c =
    let a = c.args in
    elim c.if-plan-ge-PLAN.branch [
      | then-plan-ge-PLAN w ↦ plan_passed a.plan.now a.window.now w.if-plan-ge-PLAN.true (sym w.fixed_meet.ensures ∙ sym w.value-is ∙ c.if-fixed_meet.true) _ c.equal_meet.ensures
      | else-plan-ge-PLAN w ↦ absurd (omega (arith, leb-true _ _ (sym w.value-is ∙ c.if-fixed_meet.true), w.if-plan-ge-PLAN.false))
    ]

pub returns-else-fixed_meet : goal.returns-else-fixed_meet
returns-else-fixed_meet c =
    let a = c.args in
    elim c.if-plan-ge-PLAN.branch [
      | then-plan-ge-PLAN w ↦ c.if-fixed_meet.false ∙ plan_broken a.plan.now a.window.now w.if-plan-ge-PLAN.true (sym w.fixed_meet.ensures ∙ sym w.value-is ∙ c.if-fixed_meet.false)
      | else-plan-ge-PLAN w ↦ c.if-fixed_meet.false ∙ plan_short a.plan.now a.window.now w.if-plan-ge-PLAN.false
    ]
