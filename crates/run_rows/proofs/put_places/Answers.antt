-- `put_places` meets its contract: a place, and the stretch behind it. Assumes nothing.
use native.Mathlib.Omega.{arith}
use mathlib.Core.Path.{refl}
use Rattle.run_rows.proofs.Lining.{rows_first, rows_more, rows_done}
use Rattle.run_rows.proofs.put_places.Goals as goal

pub loop-i-init : goal.loop-i-init
loop-i-init c = rows_first _ _ _ _ _ _ _ _

pub loop-i-preserved : goal.loop-i-preserved
loop-i-preserved c = rows_more _ _ _ _ _ _ _ _ _ _ _ _ c.loop-i.invariant c.loop-i-test.true (omega (arith, c.ranges.n.fits)) _ _ _ _ _ c.from.ensures c.store.ensures c.store.auto.buffer c.goes_on-on.ensures c.end_row.ensures c.end_row.auto.answer c.step-p.ensures _ _ _ _ c.stretch.ensures c.min-m.ensures c.from-in-loop-i.ensures c.from-in-loop-i-2.ensures _ c.put_run.ensures c.put_run.auto.buffer _ c.widen-p.ensures _ refl

pub returns : goal.returns
returns c = rows_done _ _ _ _ _ _ _ _ _ _ _ _ c.loop-i.invariant c.loop-i-test.false _ _ _ c.put_row.ensures c.from-2.ensures c.from-3.ensures
