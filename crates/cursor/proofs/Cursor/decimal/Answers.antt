-- `decimal` meets its contract: one more digit. Assumes nothing.
use mathlib.Core.Path.{◌∙◌}
use native.Mathlib.Omega.{arith}
use Rattle.sheets.proofs.Numbers.{goes-on}
use Rattle.cursor.proofs.Cursor.decimal.Goals as goal

pub loop-d-preserved : goal.loop-d-preserved
loop-d-preserved c =
    let p = c.loop-d in
    let e = c.in-Some-digit_at.ensures in
    (omega (arith, e.bound.1), (omega arith, goes-on c.args.text.now p.v p.i e.bound.1 c.in-Some-digit_at.d e.value e.bound.0 c.if-v-gt65535.false ∙ p.invariant.1.1))
