-- `number_cell` meets its contract: the last digits are written (`Filling`). Assumes nothing.
use Prim.Native.Nat.{◌≤◌}
use native.Mathlib.Omega.{arith}
use Rattle.pages.proofs.Cells.{filling_first, filling_above, filling_more, filling_last}
use Rattle.pages.proofs.number_cell.Goals as goal

pub loop-at-init : goal.loop-at-init
loop-at-init c = (omega arith, filling_first c.args.n (omega arith))

pub loop-at-preserved : goal.loop-at-preserved
loop-at-preserved c =
    let w = c.loop-at in
    let h : 10 ≤ w.rest = omega (arith, c.if-rest-eq0.false) in
    (omega (arith, filling_above _ _ _ _ w.invariant.1 h), filling_more _ _ _ _ w.invariant.1 h)

pub returns-after-loop-at : goal.returns-after-loop-at
returns-after-loop-at c = absurd (omega (arith, c.loop-at.invariant.0, c.loop-at-test.false))

pub returns-then-rest-eq0 : goal.returns-then-rest-eq0
returns-then-rest-eq0 c = filling_last _ _ _ _ c.loop-at.invariant.1 c.if-rest-eq0.true
