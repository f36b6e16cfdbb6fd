-- `is_revised` meets its contract. Assumes nothing.
use mathlib.Core.Path.{ap, ◌∙◌}
use mathlib.Core.Bool.{not}
use native.Mathlib.Omega.{arith}
use borrow.Author.Tests.{eq-eqb}
use Rattle.copies.proofs.Revised.{term_stays, no_line_stays, row_inside, line-revised}
use Rattle.copies.proofs.is_revised.Goals as goal

pub returns-then-row-ne-EQUATION : goal.returns-then-row-ne-EQUATION
returns-then-row-ne-EQUATION c = term_stays _ _ _ c.row_at-row.ensures c.if-row-ne-EQUATION.true

pub overflow_add-r : goal.overflow_add-r
overflow_add-r c = omega (arith, row_inside _ _ _ c.row_at-row.ensures c.if-row-ne-EQUATION.false)

pub returns-then-row-ne0 : goal.returns-then-row-ne0
returns-then-row-ne0 c =
    line-revised _ _ _ c.row_at-row.ensures c.if-row-ne-EQUATION.false c.if-row-ne0.true _ c.has_line.ensures

pub returns-else-row-ne0 : goal.returns-else-row-ne0
returns-else-row-ne0 c = ap not (eq-eqb _ _ c.if-row-ne0.false) ∙ no_line_stays _ _ _ c.row_at-row.ensures c.if-row-ne0.false
