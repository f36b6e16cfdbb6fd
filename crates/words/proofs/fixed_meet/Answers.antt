-- `fixed_meet` meets its contract: the rows before have passed. Assumes nothing.
use mathlib.Core.Path.{◌∙◌}
use Prim.Native.Nat.{min}
use native.Mathlib.Omega.{arith}
use lib.ListN.{get_or}
use borrow.Author.Tests.{eq-eqb, ne_eqb}
use Rattle.words.specs.inner.Plan.{fixed_test}
use Rattle.words.proofs.Testing.{below_none, below_more, below-broken, fixed_read}
use Rattle.words.proofs.fixed_meet.Goals as goal

pub loop-j-init : goal.loop-j-init
loop-j-init c = let a = c.args in below_none (fixed_test a.plan.now a.window.now)

pub returns-then-x-number : goal.returns-then-x-number
returns-then-x-number c =
    let a = c.args in
    below-broken (min (get_or a.plan.now 0 0) 64) (fixed_test a.plan.now a.window.now) c.loop-j.j (omega (arith, c.loop-j-test.true, c.min-n.ensures, c.number.ensures.0))
    (fixed_read a.plan.now a.window.now c.loop-j.j _ _ _ _ c.number-in-loop-j.ensures.0 c.word-x.ensures.0 c.number-in-loop-j-2.ensures.0 c.number-in-loop-j-3.ensures.0
    ∙ ne_eqb _ _ c.if-x-number.true)

pub loop-j-preserved : goal.loop-j-preserved
loop-j-preserved c =
    let a = c.args in
    below_more c.loop-j.j (fixed_test a.plan.now a.window.now) c.loop-j.invariant
    (fixed_read a.plan.now a.window.now c.loop-j.j _ _ _ _ c.number-in-loop-j.ensures.0 c.word-x.ensures.0 c.number-in-loop-j-2.ensures.0 c.number-in-loop-j-3.ensures.0
    ∙ eq-eqb _ _ c.if-x-number.false)
