-- `put_bytes` meets its contract: the bytes before an index are pushed. Assumes nothing.
use mathlib.Core.Path.{◌∙◌}
use native.Mathlib.Omega.{arith}
use Rattle.lines.proofs.Pushing.{push_next, push_none}
use Rattle.lines.proofs.put_bytes.Goals as goal

pub loop-byte-preserved : goal.loop-byte-preserved
loop-byte-preserved c = push_next _ _ _ c.loop-byte.byte-index (omega (arith, c.loop-byte-test.true)) c.push-line.ensures ∙ c.loop-byte.invariant

pub returns : goal.returns
returns c = push_none _ _ c.loop-byte.byte-index (omega (arith, c.loop-byte-test.false)) ∙ c.loop-byte.invariant
