-- `answer_at` meets its contract: each way in which it ends has its law in proofs/Ends.antt. Assumes nothing.
use mathlib.Core.Path.{◌∙◌, ap}
use native.Mathlib.Omega.{arith}
use Prim.Native.Nat.{◌≤◌}
use lib.Dec.{eqb}
use lib.ListN.{length}
use Rattle.stepper.proofs.Ends.{goes, no_answer, answer_short, answer_refused, answer_done}
use Rattle.stepper.proofs.answer_at.Goals as goal

pub returns-then-answer-lt-ANSWER : goal.returns-then-answer-lt-ANSWER
returns-then-answer-lt-ANSWER c =
    let ends = answer_short c.args.table.now c.args.job.next c.args.job.ties c.args.work.now c.args.answer.now (omega (arith, c.if-answer-lt-ANSWER.true)) _ c.record.ensures in
    record { «record» = ends.0; answer = ends.1 }

pub returns-in-Err : goal.returns-in-Err
returns-in-Err c =
    let B = c.begin.ensures (omega arith) (omega arith) in
    let it = B.refused _ c.in-Err.is in
    let found = c.record-in-Err.ensures ∙ it.1 in
    let ends = answer_refused c.args.table.now c.args.job.next c.args.job.ties c.args.work.now c.args.answer.now (omega (arith, c.if-answer-lt-ANSWER.false)) it.0 _ found
    (ap (λ r. eqb r.outcome 2) found ∙ no_answer c.args.table.now _ it.0) in
    record { «record» = ends.0; answer = ends.1 }

pub returns : goal.returns
returns c =
    let B = c.begin.ensures (omega arith) (omega arith) in
    let G = goes c.args.table.now _ (B.goes c.in_default.is) in
    let placed = B.placed c.in_default.is in
    let k : 24576 ≤ length c.args.answer.now = omega (arith, c.if-answer-lt-ANSWER.false) in
    let ends = answer_done c.args.table.now c.args.job.next c.args.job.ties c.args.work.now c.args.answer.now k G _ _ (c.answer_placed.ensures placed G.plain (c.from-bits.ensures ∙ placed.bits_are) G.enough k) in
    record { «record» = ends.0; answer = ends.1 }
