-- `eight_clear` meets its contract: the bits of the marks looked at, taken together, are none. Assumes nothing.
use mathlib.Core.Path.{refl}
use Rattle.run_rows.proofs.Lining.{eight_more}
use Rattle.run_rows.proofs.eight_clear.Goals as goal

pub loop-i-preserved : goal.loop-i-preserved
loop-i-preserved c =
    let a = c.args in
    eight_more a.after.now a.before.now a.r c.loop-i.i c.loop-i.bits _ _ c.loop-i.invariant refl refl
