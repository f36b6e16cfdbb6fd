-- `has_line` meets its contract: what is left to search says what the whole search says. Assumes nothing.
use mathlib.Core.Path.{sym, ◌∙◌, ap}
use Rattle.terms.specs.Table.{of_line}
use Rattle.copies.proofs.Revised.{some_here, some_passed, some_end}
use Rattle.copies.proofs.has_line.Goals as goal

pub returns-then-of_line : goal.returns-then-of_line
returns-then-of_line c =
    some_here (of_line _) _ _ c.loop-i-test.true
    (sym c.if-of_line.true ∙ c.of_line.ensures ∙ ap (of_line _) c.row_at.ensures)
    ∙ c.loop-i.invariant

pub loop-i-preserved : goal.loop-i-preserved
loop-i-preserved c =
    some_passed (of_line _) _ _ c.loop-i-test.true
    (sym c.if-of_line.false ∙ c.of_line.ensures ∙ ap (of_line _) c.row_at.ensures)
    ∙ c.loop-i.invariant

pub returns : goal.returns
returns c = some_end (of_line _) _ _ c.loop-i-test.false ∙ c.loop-i.invariant
