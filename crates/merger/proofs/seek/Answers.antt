-- `seek` meets its contract: what was passed is in no pair. Assumes nothing.
use native.Mathlib.Omega.{arith}
use Rattle.merger.proofs.Passing.{sent_ends, sent_falls, sent_goes, received_ends, received_falls, received_goes}
use Rattle.merger.proofs.seek.Goals as goal

pub returns-then-sent-i : goal.returns-then-sent-i
returns-then-sent-i c =
    sent_ends _ _ _ _ _ _ _ _ c.loop-a.invariant c.if-a-b.true c.if-sent-i.true

pub returns-then-next-a : goal.returns-then-next-a
returns-then-next-a c =
    sent_falls _ _ _ _ _ _ _ _ c.loop-a.invariant c.if-a-b.true c.if-sent-i.false c.if-next-a.true

pub loop-a-preserved-then-a-b : goal.loop-a-preserved-then-a-b
loop-a-preserved-then-a-b c =
    sent_goes _ _ _ _ _ _ _ _ c.loop-a.invariant c.if-a-b.true c.if-sent-i.false c.if-next-a.false

pub returns-then-received-j : goal.returns-then-received-j
returns-then-received-j c =
    received_ends _ _ _ _ _ _ _ _ c.loop-a.invariant (omega (arith, c.loop-a-test.true, c.if-a-b.false)) c.if-received-j.true

pub returns-then-next-b : goal.returns-then-next-b
returns-then-next-b c =
    received_falls _ _ _ _ _ _ _ _ c.loop-a.invariant (omega (arith, c.loop-a-test.true, c.if-a-b.false)) c.if-received-j.false c.if-next-b.true

pub loop-a-preserved : goal.loop-a-preserved
loop-a-preserved c =
    received_goes _ _ _ _ _ _ _ _ c.loop-a.invariant (omega (arith, c.loop-a-test.true, c.if-a-b.false)) c.if-received-j.false c.if-next-b.false
