-- `put_bits` meets its contract: the invariant is `Putting`, of proofs/Filling.antt. Assumes nothing.
use native.Mathlib.Omega.{arith}
use Rattle.maker.proofs.Filling.{putting_first, putting_more, putting_full}
use Rattle.maker.proofs.put_bits.Goals as goal

pub loop-j-init : goal.loop-j-init
loop-j-init c = putting_first _ _ _ _ _ _

pub returns-then-out-at : goal.returns-then-out-at
returns-then-out-at c = putting_full _ _ _ _ _ _ _ _ _ c.loop-j.invariant c.loop-j-test.true c.if-out-at.true

pub loop-j-preserved : goal.loop-j-preserved
loop-j-preserved c = putting_more _ _ _ _ _ _ _ _ _ c.loop-j.invariant c.loop-j-test.true _ _ (omega (arith, c.from.ensures, c.from-in-loop-j.ensures)) c.byte_of.ensures
