-- `rises` meets its contract: from the record at i on the counters rise exactly if all do. Assumes nothing.
use mathlib.Core.Path.{sym, ◌∙◌}
use native.Mathlib.Omega.{arith}
use Rattle.merger.proofs.Rests.{rise_falls, rise_last}
use Rattle.merger.proofs.Passing.{tested_next}
use Rattle.merger.proofs.rises.Goals as goal

pub returns-then-numbers-i : goal.returns-then-numbers-i
returns-then-numbers-i c =
    let l = c.loop-i in
    rise_falls c.args.k c.args.numbers.now l.i l.invariant.0.whole (omega arith) c.if-numbers-i.true ∙ l.invariant.0.same

pub loop-i-preserved : goal.loop-i-preserved
loop-i-preserved c =
    let l = c.loop-i in
    let a = c.args in
    (tested_next a.k a.numbers.now l.i l.invariant.0 (omega arith) (omega arith) c.if-numbers-i.false, l.invariant.1)

pub returns : goal.returns
returns c =
    let l = c.loop-i in
    let a = c.args in
    sym (rise_last a.k a.numbers.now l.i l.invariant.0.whole (omega arith)) ∙ l.invariant.0.same
