-- `put_places` meets its contract: the invariant is `Putting`, of proofs/Placing.antt. Assumes nothing.
use Rattle.borders.proofs.Placing.{first_place, putting_first, putting_more, putting_done}
use Rattle.borders.proofs.put_places.Goals as goal

pub loop-i-init : goal.loop-i-init
loop-i-init c = rw (first_place _ c.default-p.ensures) (putting_first _ _ _ _ _ _ _)

pub loop-i-preserved : goal.loop-i-preserved
loop-i-preserved c = putting_more _ _ _ _ _ _ _ _ _ _ _ c.loop-i.invariant c.loop-i-test.true _ _ _ _ _ c.from.ensures c.store.ensures c.store.auto.buffer c.goes_on-on.ensures c.end_row.ensures c.end_row.auto.answer c.step-p.ensures

pub returns : goal.returns
returns c = putting_done _ _ _ _ _ _ _ _ _ _ _ c.loop-i.invariant c.loop-i-test.false _ _ _ c.put_row.ensures c.from-2.ensures c.from-3.ensures
