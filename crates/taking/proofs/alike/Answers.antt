-- `alike` meets its contract: as long as every pair so far links alike, so many do. Assumes nothing.
use native.Mathlib.Omega.{arith}
use Rattle.taking.proofs.Passing.{alike_told}
use Rattle.taking.proofs.alike.Goals as goal

pub returns : goal.returns
returns c =
    let l = c.loop-i in
    alike_told _ _ _ _ _ _ _
    c.from-s.ensures
    c.from-t.ensures
    (omega (arith, c.if-a-lt-STRIDE.false))
    (omega (arith, c.if-b-lt-STRIDE.false))
    (omega (arith, c.if-links-s.false))
    (omega (arith, c.if-links-t.false))
    (omega (arith, c.if-a-ne1.false))
    (omega (arith, c.if-b-ne1.false))
    c.loop-i-test.false l.invariant.0 l.invariant.1
