-- `mark_every` meets its contract: the first i bytes are marks. Assumes nothing.
use native.Mathlib.Omega.{arith}
use mathlib.Core.Path.{refl, ◌∙◌}
use lib.ListN.{length-set}
use Rattle.details.proofs.Printing.{no_marks, marks_more, marks-all}
use Rattle.details.proofs.mark_every.Goals as goal

pub loop-i-init : goal.loop-i-init
loop-i-init c = (refl, no_marks _ _ _)

pub loop-i-preserved : goal.loop-i-preserved
loop-i-preserved c =
    let l = c.loop-i in
    (length-set l.bits l.i _ ∙ l.invariant.0, marks_more _ _ _ _ _ _ c.mark.ensures l.invariant.1)

pub returns : goal.returns
returns c = let l = c.loop-i in marks-all _ _ _ _ l.i l.invariant.1 (omega (arith, c.loop-i-test.false, l.invariant.0))
