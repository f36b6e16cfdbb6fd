-- `put_print` meets its contract: the record, and behind it the answer table for outcome 2 only. Assumes nothing.
use mathlib.Core.Path.{◌≡◌, sym}
use Prim.Native.Nat.{ℕ, ◌*◌, ◌≤◌}
use native.Mathlib.Omega.{arith}
use lib.ListN.{length, replicate, length-replicate}
use lib.Seq.{length-take-le}
use Rattle.printer.proofs.Prints.{prints_none, prints_record, rows_fit, prints_answer}
use Rattle.printer.proofs.put_print.Goals as goal
use Rattle.printer.proofs.put_print.Lts as lts
use Rattle.printer.proofs.put_print.Tie as tie
use Rattle.printer.proofs.put_print.Reads as reads

lent : length {A = ℕ} (replicate 24576 0) ≡ 24576
lent = length-replicate {A = ℕ} 24576 0

-- the rows lie in the answer table
within : (d : lts.After-struct_known2 tie.the-claims reads.Pre reads.Post tie.handed_clauses)
    → d.solve_text-found.result.pieces * 6
    ≤ length d.solve_text-found.new.answer
within d =
    let a = d.args in
    let found = d.solve_text-found.ensures.record in
    let fit = rows_fit a.text.now a.out.now d.if-out-lt-PRINT_ROOM.false (replicate 24576 0) lent _ found d.if-found-ne2.false in
    omega (arith, fit, lent, d.solve_text-found.auto.answer)

pub returns-then-out-lt-PRINT_ROOM : goal.returns-then-out-lt-PRINT_ROOM
returns-then-out-lt-PRINT_ROOM c =
    record { length = (prints_none _ _ c.if-out-lt-PRINT_ROOM.true).0; bytes = (prints_none _ _ c.if-out-lt-PRINT_ROOM.true).1 }

pub returns-then-found-ne2 : goal.returns-then-found-ne2
returns-then-found-ne2 c =
    let a = c.args in
    record {
      length = (prints_record a.text.now a.out.now c.if-out-lt-PRINT_ROOM.false (replicate 24576 0) lent _ c.solve_text-found.ensures.record _ _
          (λ z. omega (arith, z, c.if-found-ne2.true)) (c.put_record-behind.ensures.place, c.put_record-behind.ensures.bytes)).0;
      bytes = (prints_record a.text.now a.out.now c.if-out-lt-PRINT_ROOM.false (replicate 24576 0) lent _ c.solve_text-found.ensures.record _ _
          (λ z. omega (arith, z, c.if-found-ne2.true)) (c.put_record-behind.ensures.place, c.put_record-behind.ensures.bytes)).1;
    }

pub slice_bounds-answer-end : goal.slice_bounds-answer-end
slice_bounds-answer-end c = within c.before

pub slice_bounds-put_answer-end : goal.slice_bounds-put_answer-end
slice_bounds-put_answer-end c = sym (length-take-le _ _ (within c.before.before))

pub returns : goal.returns
returns c =
    let a = c.args in
    record {
      length = (prints_answer a.text.now a.out.now c.if-out-lt-PRINT_ROOM.false (replicate 24576 0) lent _ c.solve_text-found.ensures.record _ _ _ _ _
          c.if-found-ne2.false c.solve_text-found.ensures.answer (c.put_record-behind.ensures.place, c.put_record-behind.ensures.bytes) (c.put_answer.ensures.place, c.put_answer.ensures.bytes)).0;
      bytes = (prints_answer a.text.now a.out.now c.if-out-lt-PRINT_ROOM.false (replicate 24576 0) lent _ c.solve_text-found.ensures.record _ _ _ _ _
          c.if-found-ne2.false c.solve_text-found.ensures.answer (c.put_record-behind.ensures.place, c.put_record-behind.ensures.bytes) (c.put_answer.ensures.place, c.put_answer.ensures.bytes)).1;
    }
