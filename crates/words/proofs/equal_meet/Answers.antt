-- `equal_meet` meets its contract: the rows before have passed. Assumes nothing.
use mathlib.Core.Path.{◌∙◌}
use Prim.Native.Nat.{min}
use native.Mathlib.Omega.{arith}
use lib.ListN.{get_or}
use borrow.Author.Tests.{eq-eqb, ne_eqb}
use Rattle.groups.specs.inner.Places.{equal_test}
use Rattle.words.proofs.Testing.{below_none, below_more, below-broken, equal_read}
use Rattle.words.proofs.equal_meet.Goals as goal

pub loop-g-init : goal.loop-g-init
loop-g-init c = let a = c.args in below_none (equal_test a.plan.now a.window.now)

pub returns-then-x-y-ne0 : goal.returns-then-x-y-ne0
returns-then-x-y-ne0 c =
    let a = c.args in
    below-broken (min (get_or a.plan.now 1 0) 1023) (equal_test a.plan.now a.window.now) c.loop-g.g (omega (arith, c.loop-g-test.true, c.min-n.ensures, c.number.ensures.0))
    (equal_read a.plan.now a.window.now c.loop-g.g _ _ _ _ _ _ c.number-in-loop-g.ensures.0 c.word-x.ensures.0 c.number-in-loop-g-2.ensures.0
    c.word-y.ensures.0 c.word-y.ensures.1 c.number-shift.ensures.0 c.number-in-loop-g-3.ensures.0
    ∙ ne_eqb _ _ c.if-x-y-ne0.true)

pub loop-g-preserved : goal.loop-g-preserved
loop-g-preserved c =
    let a = c.args in
    below_more c.loop-g.g (equal_test a.plan.now a.window.now) c.loop-g.invariant
    (equal_read a.plan.now a.window.now c.loop-g.g _ _ _ _ _ _ c.number-in-loop-g.ensures.0 c.word-x.ensures.0 c.number-in-loop-g-2.ensures.0
    c.word-y.ensures.0 c.word-y.ensures.1 c.number-shift.ensures.0 c.number-in-loop-g-3.ensures.0
    ∙ eq-eqb _ _ c.if-x-y-ne0.false)
