-- `start` meets its contract: the invariant is `Starting`, of proofs/Starting.antt. Assumes nothing.
use mathlib.Core.Path.{refl, ◌∙◌}
use native.Mathlib.Omega.{arith}
use Rattle.runs.proofs.Starting.{starting_first, starting_more}
use Rattle.runs.proofs.start.Goals as goal

pub loop-x-init : goal.loop-x-init
loop-x-init c = (omega arith, omega arith, refl, refl, λ ws a b d e f g. starting_first _ _ _ _)

pub loop-x-preserved : goal.loop-x-preserved
loop-x-preserved c =
    let l = c.loop-x in (
      omega (arith, l.invariant.0, c.max-t.ensures),
      omega (arith, c.loop-x-test.true, c.max-t.ensures, c.min-end.ensures),
      c.put_run.auto.buffer ∙ l.invariant.2,
      c.store.auto.buffer ∙ l.invariant.3,
      λ ws some whole small r₁ r₂ are.
          starting_more c.args.sources.now _ ws some whole small are l.last l.first l.v l.x (l.invariant.4 ws some whole small r₁ r₂ are) c.loop-x-test.true (omega (arith, r₁, l.invariant.2)) (omega (arith, r₂, l.invariant.3)) _ _ _ _ _ _ _ _
          c.load.ensures c.min-end.ensures c.max-t.ensures c.from.ensures c.from-in-loop-x.ensures c.put_run.ensures c.from-in-loop-x-2.ensures c.store.ensures,
    )
