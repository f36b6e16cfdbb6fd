-- `find_group` meets its contract: the last row is the last of those below g. Assumes nothing.
use mathlib.Core.Path.{sym, ◌∙◌}
use Rattle.groups.proofs.Keys.{last_here, last_below, last_none}
use Rattle.groups.proofs.find_group.Goals as goal

pub returns-then-row_of : goal.returns-then-row_of
returns-then-row_of c =
    let a = c.args in
    last_here a.plan.now a.x a.y a.shift a.from c.loop-g.g c.loop-g-test.true (sym c.if-row_of.true ∙ c.row_of.ensures)
    ∙ sym c.loop-g.invariant

pub loop-g-preserved : goal.loop-g-preserved
loop-g-preserved c =
    let a = c.args in
    c.loop-g.invariant ∙ last_below a.plan.now a.x a.y a.shift a.from c.loop-g.g c.loop-g-test.true (sym c.if-row_of.false ∙ c.row_of.ensures)

pub returns : goal.returns
returns c =
    let a = c.args in
    sym (c.loop-g.invariant ∙ last_none a.plan.now a.x a.y a.shift a.from c.loop-g.g c.loop-g-test.false)
