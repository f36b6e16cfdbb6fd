-- `all_bits` meets its contract: what is left to test says what all bytes say. Assumes nothing.
use Rattle.laws.proofs.AllBits.{bits_more, bits_broken, bits_end}
use native.Mathlib.Omega.{arith}
use mathlib.Core.Path.{◌∙◌}
use Rattle.numbers.proofs.all_bits.Goals as goal

pub returns-then-pattern-i-gt1 : goal.returns-then-pattern-i-gt1
returns-then-pattern-i-gt1 c =
    bits_broken c.args.pattern.now c.loop-i.i c.loop-i-test.true c.if-pattern-i-gt1.true ∙ c.loop-i.invariant

pub loop-i-preserved : goal.loop-i-preserved
loop-i-preserved c =
    bits_more c.args.pattern.now c.loop-i.i c.loop-i-test.true (omega (arith, c.if-pattern-i-gt1.false)) ∙ c.loop-i.invariant

pub returns : goal.returns
returns c =
    bits_end c.args.pattern.now c.loop-i.i (omega (arith, c.loop-i-test.false, c.loop-i.auto.i-end)) ∙ c.loop-i.invariant
