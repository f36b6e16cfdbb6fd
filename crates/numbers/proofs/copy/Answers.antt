-- `copy` meets its contract: i numbers are copied. Assumes nothing.
use Rattle.laws.proofs.Buffers.{write_more}
use Rattle.laws.specs.Buffers.{overwrite}
use native.Mathlib.Omega.{arith}
use mathlib.Core.Path.{refl, ◌∙◌}
use Rattle.numbers.proofs.copy.Goals as goal

pub loop-i-init : goal.loop-i-init
unfolding overwrite
loop-i-init c = (omega arith, refl, refl)

pub loop-i-preserved : goal.loop-i-preserved
loop-i-preserved c =
    let k = c.loop-i.invariant in (
      omega (arith, c.if-from-i.false),
      c.store.auto.buffer ∙ k.1,
      c.store.ensures ∙ write_more _ _ c.loop-i.i _ _ c.if-from-i.false refl k.2,
    )
