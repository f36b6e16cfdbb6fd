-- `rows_fine` meets its contract: the invariant is `Testing`, of proofs/Testing.antt. Assumes nothing.
use mathlib.Core.Path.{sym, ◌∙◌}
use native.Mathlib.Omega.{arith}
use Rattle.homes.proofs.Testing.{testing_first, testing_more, testing_bad, testing_done}
use Rattle.homes.proofs.rows_fine.Goals as goal

pub loop-i-init : goal.loop-i-init
loop-i-init c = testing_first _ _ _

pub returns-then-not-home_fine : goal.returns-then-not-home_fine
returns-then-not-home_fine c = testing_bad _ _ _ _ _ _ c.loop-i.invariant c.loop-i-test.true _ c.from.ensures _ c.row_at-row.ensures _ c.width_on-passed.ensures _ c.home_row-from.ensures _ c.saturating_sub.ensures (sym c.home_fine.ensures ∙ c.if-not-home_fine.true)

pub loop-i-preserved : goal.loop-i-preserved
loop-i-preserved c = testing_more _ _ _ _ _ _ c.loop-i.invariant c.loop-i-test.true _ c.from.ensures _ c.row_at-row.ensures _ c.width_on-passed.ensures _ c.home_row-from.ensures _ c.saturating_sub.ensures (sym c.home_fine.ensures ∙ c.if-not-home_fine.false)

pub returns : goal.returns
returns c = testing_done _ _ _ _ _ _ c.loop-i.invariant (omega (arith, c.loop-i-test.false))
