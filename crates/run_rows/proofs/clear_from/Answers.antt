-- `clear_from` meets its contract: those passed are clear. Assumes nothing.
use native.Mathlib.Omega.{arith}
use Rattle.run_rows.proofs.Lining.{clear_more}
use Rattle.run_rows.proofs.clear_from.Goals as goal

pub loop-k-preserved : goal.loop-k-preserved
loop-k-preserved c =
    let a = c.args in
    (omega (arith, c.clear_step-m.ensures.0), clear_more a.after.now a.before.now c.from-from.result c.loop-k.k c.clear_step-m.result c.loop-k.invariant.1 c.clear_step-m.ensures.1)
