-- `preview_at` meets its contract: each way in which it ends has its law in proofs/Ends.antt. Assumes nothing.
use mathlib.Core.Path.{◌∙◌}
use native.Mathlib.Omega.{arith}
use Rattle.stepper.proofs.Ends.{goes, step_refused, record_done}
use Rattle.stepper.proofs.preview_at.Goals as goal

pub returns-in-Err : goal.returns-in-Err
returns-in-Err c =
    let B = c.begin.ensures (omega arith) (omega arith) in
    let it = B.refused _ c.in-Err.is in
    record { «record» = (step_refused c.args.table.now _ _ c.args.work.now it.0 _ (c.record.ensures ∙ it.1)).0 }

pub returns : goal.returns
returns c =
    let B = c.begin.ensures (omega arith) (omega arith) in
    let G = goes c.args.table.now _ (B.goes c.in_default.is) in
    let placed = B.placed c.in_default.is in
    record { «record» = record_done c.args.table.now _ _ c.args.work.now G _ (c.preview_placed.ensures placed G.plain (c.from-bits.ensures ∙ placed.bits_are) G.enough) }
