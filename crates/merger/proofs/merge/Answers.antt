-- `merge` meets its contract: what was found and what the rests will give is what all give. Assumes nothing.
use mathlib.Core.Path.{◌∙◌}
use mathlib.Core.Logic.{inl, inr}
use Rattle.merger.proofs.Passing.{merged_last, reached_on, less_left}
use Rattle.merger.proofs.merge.Goals as goal

pub loop-s-smaller : goal.loop-s-smaller
loop-s-smaller c =
    let p = c.requires in
    let l = c.loop-s in
    less_left _ _ _ _ p.le_k p.k_bound p.comparable p.comparable_2 _ l.invariant.0 c.loop-s-test.true c.if-s-received.true _ c.in_ok-s-2.ensures

pub loop-s-preserved : goal.loop-s-preserved
loop-s-preserved c =
    let p = c.requires in
    let l = c.loop-s in
    (reached_on _ _ _ _ p.le_k p.k_bound p.comparable p.comparable_2 _ l.invariant.0 c.loop-s-test.true c.if-s-received.true _ c.in_ok-s-2.ensures, c.step.auto.window ∙ l.invariant.1)

pub returns-else-s-received : goal.returns-else-s-received
returns-else-s-received c = merged_last _ _ _ _ _ c.loop-s.invariant.0 (inr c.if-s-received.false)

pub returns-after-loop-s : goal.returns-after-loop-s
returns-after-loop-s c = merged_last _ _ _ _ _ c.loop-s.invariant.0 (inl c.loop-s-test.false)
