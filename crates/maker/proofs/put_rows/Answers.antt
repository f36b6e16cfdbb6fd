-- `put_rows` meets its contract: the invariant is `Filling`, of proofs/Filling.antt. Assumes nothing.
use Rattle.maker.proofs.Filling.{filling_first, filling_more, filling_done}
use Rattle.maker.proofs.put_rows.Goals as goal

pub loop-i-init : goal.loop-i-init
loop-i-init c = filling_first _ _ _ _

pub loop-i-preserved : goal.loop-i-preserved
loop-i-preserved c = filling_more _ _ _ _ _ _ _ c.loop-i.invariant c.loop-i-test.true _ c.row_at-r.ensures _ _ _ _ c.from.ensures c.load-start.ensures c.put_bits-at.ensures c.put_bits-at.auto.out

pub returns : goal.returns
returns c = filling_done _ _ _ _ _ _ _ c.loop-i.invariant c.loop-i-test.false
