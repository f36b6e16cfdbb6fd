-- `step_at` meets its contract: each way in which it ends has its law in proofs/Ends.antt. Assumes nothing.
use mathlib.Core.Path.{◌∙◌}
use native.Mathlib.Omega.{arith}
use Rattle.stepper.proofs.Ends.{goes, step_refused, step_done}
use Rattle.stepper.proofs.step_at.Goals as goal

pub returns-in-Err : goal.returns-in-Err
returns-in-Err c =
    let B = c.begin.ensures (omega arith) (omega arith) in
    let it = B.refused _ c.in-Err.is in
    let ends = step_refused c.args.table.now c.args.job.next c.args.job.ties c.args.work.now it.0 _ (c.record.ensures ∙ it.1) in
    record { «record» = ends.0; next = ends.1.0; ties = ends.1.1.0; work = ends.1.1.1 }

pub returns : goal.returns
returns c =
    let B = c.begin.ensures (omega arith) (omega arith) in
    let G = goes c.args.table.now _ (B.goes c.in_default.is) in
    let placed = B.placed c.in_default.is in
    let ends = step_done c.args.table.now c.args.job.next c.args.job.ties c.args.work.now G _ _ _ _ (c.step_placed.ensures placed G.plain (c.from-bits.ensures ∙ placed.bits_are) G.enough) in
    record { «record» = ends.0; next = ends.1.0; ties = ends.1.1.0; work = ends.1.1.1 }
