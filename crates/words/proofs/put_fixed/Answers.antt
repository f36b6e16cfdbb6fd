-- `put_fixed` meets its contract: the rows of the variables before are there. Assumes nothing.
use mathlib.Core.Path.{refl, ◌∙◌}
use native.Mathlib.Omega.{arith}
use Rattle.laws.proofs.Bools.{one_most}
use Rattle.groups.specs.inner.Counts.{linked}
use Rattle.words.specs.inner.Sizes.{has_fixed}
use Rattle.words.proofs.FixedRows.{rows_none, rows_more}
use Rattle.words.proofs.put_fixed.Goals as goal

pub loop-v-init : goal.loop-v-init
loop-v-init c = let a = c.args in (omega arith, refl, λ h. rows_none a.links.now a.plan.now)

pub loop-v-preserved : goal.loop-v-preserved
loop-v-preserved c =
    let r = c.put_fixed_row-n in
    let a = c.args in
    let i = c.loop-v.invariant in (
      omega (arith, i.0, r.ensures.counted, one_most (has_fixed (linked a.links.now) c.loop-v.v)),
      r.auto.plan ∙ i.1,
      λ h. rows_more a.links.now a.plan.now c.loop-v.plan _ c.loop-v.v c.loop-v.n r.result (i.2 h) (r.ensures.fixed_row_put (omega (arith, i.1))) r.ensures.counted,
    )
