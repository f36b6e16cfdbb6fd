-- `lined` meets its contract: what is left to look through says what all rows say. Assumes nothing.
use mathlib.Core.Path.{refl, sym, ◌∙◌, ap}
use Rattle.jobs.specs.Call.{has_line, breaks43}
use Rattle.copies.proofs.Revised.{some_here, some_passed, some_end}
use Rattle.states.proofs.lined.Goals as goal

pub loop-r-init : goal.loop-r-init
unfolding breaks43
loop-r-init c = refl

pub returns-then-has_line : goal.returns-then-has_line
returns-then-has_line c =
    some_here has_line _ _ c.loop-r-test.true
    (sym c.if-has_line.true ∙ c.has_line.ensures ∙ ap has_line c.row_at.ensures)
    ∙ c.loop-r.invariant

pub loop-r-preserved : goal.loop-r-preserved
loop-r-preserved c =
    some_passed has_line _ _ c.loop-r-test.true
    (sym c.if-has_line.false ∙ c.has_line.ensures ∙ ap has_line c.row_at.ensures)
    ∙ c.loop-r.invariant

pub returns : goal.returns
returns c = some_end has_line _ _ c.loop-r-test.false ∙ c.loop-r.invariant
