-- `of_line` meets its contract. Assumes nothing.
use mathlib.Core.Path.{◌∙◌}
use borrow.Author.Tests.{ne_eqb}
use Rattle.copies.proofs.Revised.{term_no_line, equation_line}
use Rattle.copies.proofs.of_line.Goals as goal

pub returns-then-row-eq-EQUATION : goal.returns-then-row-eq-EQUATION
returns-then-row-eq-EQUATION c = equation_line _ _ c.if-row-eq-EQUATION.true

pub returns-else-row-eq-EQUATION : goal.returns-else-row-eq-EQUATION
returns-else-row-eq-EQUATION c = ne_eqb _ _ c.if-row-eq-EQUATION.false ∙ term_no_line _ _ c.if-row-eq-EQUATION.false
