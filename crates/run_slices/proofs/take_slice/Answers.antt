-- `take_slice` meets its contract: the invariant is `Going`, of proofs/Slicing.antt. Assumes nothing.
use mathlib.Core.Path.{refl, ◌∙◌}
use native.Mathlib.Omega.{arith}
use Rattle.classes.specs.inner.Links.{number_of}
use mathlib.Core.Bool.{true}
use Rattle.run_slices.specs.inner.Slices.{TakesSlice}
use Rattle.run_slices.proofs.Stopped.{on_err}
use Rattle.run_slices.proofs.Slicing.{going_first, gained_few, going_step, going_stop, going_done}
use Rattle.run_slices.proofs.take_slice.Goals as goal

pub loop-len-init : goal.loop-len-init
loop-len-init c = (refl, refl, refl, omega arith, omega arith, λ shut S l r. going_first _ _ _ _ _ _ _ S)

pub returns-in_err-gained-clause-conflict : goal.returns-in_err-gained-clause-conflict
returns-in_err-gained-clause-conflict c =
    let l = c.loop-len in
    let a = c.args in
    let n = c.take_run-s.new in
    let stop : TakesSlice a.left a.right a.width a.links.now a.last.now a.first.now n.links n.last n.first true 0 =
    λ shut S left right. going_stop shut _ _ _ _ _ _ _ _ _ _ _ _ _ (l.invariant.5 shut S left right) c.loop-len-test.true left right _ _ _ _ _ c.take_run-s.ensures c.in_err-gained.ensures.conflict in
    on_err _ stop

pub loop-len-preserved : goal.loop-len-preserved
loop-len-preserved c =
    let l = c.loop-len in
    let r = c.take_run-s in
    let what = number_of r.result.what in
    let g = c.in_ok-gained.ensures.ties in (
      r.auto.links ∙ l.invariant.0,
      r.auto.last ∙ l.invariant.1,
      r.auto.first ∙ l.invariant.2,
      gained_few _ _ _ _ _ what _ _ l.invariant.3 c.min.ensures g.1 c.from.ensures c.saturating_sub-len.ensures,
      omega (arith, l.invariant.4, c.saturating_sub-len.ensures, c.max-n.ensures, c.loop-len-test.true, l.invariant.3),
      λ shut S left right.
          going_step shut _ _ _ _ _ _ _ _ _ _ _ _ _ (l.invariant.5 shut S left right) c.loop-len-test.true left right _ _ _ what r.result.len r.ensures g.0 r.auto.links _ _ _ _ _ _ _
          c.max-n.ensures c.min.ensures g.1 c.from.ensures c.along-a.ensures c.along-b.ensures c.saturating_sub-len.ensures,
    )

pub returns : goal.returns
returns c =
    let l = c.loop-len in
    record { taken = λ shut S left right. going_done shut _ _ _ _ _ _ _ _ _ _ _ _ _ (l.invariant.5 shut S left right) (omega (arith, c.loop-len-test.false)); conflict = tt; few = (omega (arith, l.invariant.3), omega (arith, l.invariant.4)) }
