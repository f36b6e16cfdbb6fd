-- `take_slices` meets its contract: the invariant is `SlicesOn`, of proofs/Pairs.antt. Assumes nothing.
use mathlib.Core.Path.{refl, ◌∙◌}
use mathlib.Core.Bool.{true, false}
use native.Mathlib.Omega.{arith}
use Rattle.run_slices.proofs.Stopped.{on_err}
use Rattle.run_equations.specs.inner.Equations.{TakesSlices}
use Rattle.run_equations.proofs.Pairs.{slices_first, slices_more, slices_clash, slice_left, slice_right, slice_width}
use Rattle.run_equations.proofs.take_slices.Goals as goal

pub loop-i-init : goal.loop-i-init
loop-i-init c = (omega (arith, c.min-i-end.ensures), omega arith, omega arith, refl, refl, refl, λ shut S few lefts rights. slices_first _ _ _ _ _ S)

pub returns-in_err-t-clause-conflict : goal.returns-in_err-t-clause-conflict
returns-in_err-t-clause-conflict c =
    let l = c.loop-i in
    let a = c.args in
    let n = c.take_slice.new in
    let stop : TakesSlices a.cuts.now a.n a.links.now a.last.now a.first.now n.links n.last n.first true 0 =
    λ shut S few lefts rights.
    slices_clash shut a.cuts.now a.links.now a.last.now a.first.now S a.n lefts rights l.i (omega (arith, c.loop-i-test.true, c.min-i-end.ensures)) l.links l.last l.first l.ties (l.invariant.6 shut S few lefts rights) l.invariant.3 _ _ _
    (slice_left a.cuts.now l.i _ _ refl c.load-left.ensures) (slice_right a.cuts.now l.i _ _ refl c.load-right.ensures) (slice_width a.cuts.now l.i _ _ refl c.load-width.ensures) _ _ _ true 0 c.in_err-t.ensures.conflict refl 0 in
    on_err _ stop

pub loop-i-preserved : goal.loop-i-preserved
loop-i-preserved c =
    let l = c.loop-i in
    let t = c.take_slice in
    let few = c.in_ok-t.ensures.few in (
      l.invariant.0,
      omega (arith, l.invariant.1, few.0),
      omega (arith, l.invariant.2, few.1),
      t.auto.links ∙ l.invariant.3,
      t.auto.last ∙ l.invariant.4,
      t.auto.first ∙ l.invariant.5,
      λ shut S few lefts rights.
          slices_more shut c.args.cuts.now c.args.links.now c.args.last.now c.args.first.now S c.args.n lefts rights l.i (omega (arith, c.loop-i-test.true, c.min-i-end.ensures)) l.links l.last l.first l.ties (l.invariant.6 shut S few lefts rights) l.invariant.3 _ _ _
          (slice_left c.args.cuts.now l.i _ _ refl c.load-left.ensures) (slice_right c.args.cuts.now l.i _ _ refl c.load-right.ensures) (slice_width c.args.cuts.now l.i _ _ refl c.load-width.ensures) _ _ _ false _ c.in_ok-t.ensures.taken refl,
    )
