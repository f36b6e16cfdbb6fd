-- `unlink` meets its contract: the links below i are themselves. Assumes nothing.
use native.Mathlib.Omega.{arith}
use Rattle.laws.specs.Lists.{count_up}
use Rattle.laws.proofs.Buffers.{overwrite_none}
use Rattle.linking.proofs.Filling.{unlink_more, unlink_all}
use Rattle.linking.proofs.unlink.Goals as goal

pub loop-i-init : goal.loop-i-init
loop-i-init c = λ l. unfold count_up in (overwrite_none _)

pub loop-i-preserved : goal.loop-i-preserved
loop-i-preserved c = λ m. unlink_more _ _ _ _ (c.loop-i.invariant m) (omega (arith, c.loop-i-test.true))

pub returns : goal.returns
returns c = λ m. unlink_all _ _ _ (c.loop-i.invariant m) (omega (arith, c.loop-i-test.false, c.loop-i.auto.i-end))
