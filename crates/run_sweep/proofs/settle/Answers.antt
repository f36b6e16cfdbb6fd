-- `settle` meets its contract: the invariant is `Sweeping`. Assumes nothing.
use mathlib.Core.Path.{refl, ◌∙◌}
use native.Mathlib.Omega.{arith}
use Rattle.run_sweep.proofs.Sweeping.{sweeping_first, sweeping_more, sweeping_done}
use Rattle.run_sweep.proofs.settle.Goals as goal

pub loop-i-init : goal.loop-i-init
loop-i-init c = (refl, refl, refl, λ shut S. (omega arith, sweeping_first shut _ _ _ S))

pub loop-i-preserved : goal.loop-i-preserved
loop-i-preserved c =
    let l = c.loop-i in
    let r = c.settle_run-m in (
      r.auto.links ∙ l.invariant.0,
      r.auto.last ∙ l.invariant.1,
      r.auto.first ∙ l.invariant.2,
      λ shut S. sweeping_more shut _ _ _ _ _ _ _ S (l.invariant.3 shut S).0 (l.invariant.3 shut S).1 l.invariant.0 l.invariant.1 l.invariant.2 c.loop-i-test.true _ c.narrow.ensures _ _ _ _ r.ensures _ _ c.max.ensures c.from-i.ensures,
    )

pub returns : goal.returns
returns c = let l = c.loop-i in λ shut S. sweeping_done shut _ _ _ _ _ _ _ S (l.invariant.3 shut S).1 l.invariant.0 c.loop-i-test.false
