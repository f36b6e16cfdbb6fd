-- `next_variable` meets its contract: no variable stands between. Assumes nothing.
use mathlib.Core.Path.{sym, ◌∙◌, ap}
use native.Mathlib.Omega.{arith}
use Rattle.terms.specs.declared.Row.{Row}
use Rattle.terms.specs.Table.{rows_of}
use Rattle.terms.proofs.Rows.{rows_length}
use Rattle.comparer.proofs.Variables.{widths_end, widths_other}
use Rattle.comparer.proofs.next_variable.Goals as goal

pub returns-then-row_at-eq-VARIABLE : goal.returns-then-row_at-eq-VARIABLE
returns-then-row_at-eq-VARIABLE c = (omega (arith, c.loop-r-test.true, rows_length c.args.table.now), ap (λ (r : Row). r.kind) (sym c.row_at.ensures) ∙ c.if-row_at-eq-VARIABLE.true, c.loop-r.invariant)

pub loop-r-preserved : goal.loop-r-preserved
loop-r-preserved c =
    c.loop-r.invariant
    ∙ widths_other (rows_of c.args.table.now) c.loop-r.r (omega (arith, c.loop-r-test.true, rows_length c.args.table.now)) (λ e. c.if-row_at-eq-VARIABLE.false (ap (λ (r : Row). r.kind) c.row_at.ensures ∙ e))

pub returns : goal.returns
returns c = c.loop-r.invariant ∙ widths_end (rows_of c.args.table.now) c.loop-r.r (omega (arith, c.loop-r-test.false, rows_length c.args.table.now))
