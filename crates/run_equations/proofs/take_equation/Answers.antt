-- `take_equation` meets its contract: its parts together, by proofs/Pairs.antt. Assumes nothing.
use mathlib.Core.Path.{refl}
use mathlib.Core.Bool.{true, false}
use lib.ListN.{length}
use Rattle.run_slices.proofs.Stopped.{on_err}
use Rattle.run_equations.specs.inner.Equations.{TakesEquation}
use Rattle.run_equations.proofs.Pairs.{equation_all}
use Rattle.run_equations.proofs.take_equation.Goals as goal

pub returns-in_err-s-clause-conflict : goal.returns-in_err-s-clause-conflict
returns-in_err-s-clause-conflict c =
    let a = c.args in
    let n = c.take_slices.new in
    let stop : TakesEquation a.table.now a.widths.now a.variables.now a.lows.now a.r (length a.left.now) (length a.right.now) (length a.cuts.now) a.links.now a.last.now a.first.now n.links n.last n.first true 0 =
    λ P inside eq roomₗ roomᵣ roomᵪ shut S len.
    equation_all a.table.now a.widths.now a.variables.now a.lows.now a.left.now _ a.right.now _ a.cuts.now _ a.r _ _ P inside eq roomₗ roomᵣ
    (c.put_sides-width.ensures P.numbered inside roomₗ roomᵣ) c.cut_sides-n.ensures roomᵪ shut _ _ _ _ _ _ true 0 0 S len c.in_err-s.ensures.conflict refl in
    on_err _ stop

pub returns-clause-taken : goal.returns-clause-taken
returns-clause-taken c =
    let a = c.args in
    λ P inside eq roomₗ roomᵣ roomᵪ shut S len.
    equation_all a.table.now a.widths.now a.variables.now a.lows.now a.left.now _ a.right.now _ a.cuts.now _ a.r _ _ P inside eq roomₗ roomᵣ
    (c.put_sides-width.ensures P.numbered inside roomₗ roomᵣ) c.cut_sides-n.ensures roomᵪ shut _ _ _ _ _ _ false _ _ S len c.in_ok-s.ensures.taken c.min.ensures
