-- `put_rows` meets its contract: the lines of the first i rows are written (`RowsPut`). Assumes nothing.
use mathlib.Core.Path.{sym, ◌∙◌}
use Prim.Native.Nat.{◌*◌, ◌/◌, ◌≤◌, ◌<◌}
use native.Mathlib.Omega.{arith}
use lib.ListN.{length}
use Rattle.sheets.proofs.PrintedText.{line_at}
use Rattle.sheets.proofs.Printed.{room_there, room_not_there, put_none, put_in}
use Rattle.writer.proofs.Lines.{line_put, line_few, line_loaded, rows_first, rows_more, rows_done}
use Rattle.writer.proofs.put_rows.Goals as goal

pub returns-then-not-lines_fit : goal.returns-then-not-lines_fit
returns-then-not-lines_fit c =
    record { place = (put_none _ _ _ _ (room_not_there _ _ _ (sym c.lines_fit.ensures ∙ c.if-not-lines_fit.true))).0; bytes = (put_none _ _ _ _ (room_not_there _ _ _ (sym c.lines_fit.ensures ∙ c.if-not-lines_fit.true))).1 }

pub loop-i-init : goal.loop-i-init
loop-i-init c = rows_first _ _ _ (room_there _ _ _ (sym c.lines_fit.ensures ∙ c.if-not-lines_fit.false))

pub loop-i-preserved : goal.loop-i-preserved
loop-i-preserved c =
    let l = c.loop-i in
    let a = c.args in
    let answer = a.answer.now in
    let h : l.i < length answer / 6 = omega (arith, c.loop-i-test.true) in
    let few : length (line_at answer (l.i * 6)) ≤ 80 = line_few answer (l.i * 6) in
    let text = line_loaded answer (l.i * 6) _ _ _ _ _ _ _ c.load.ensures c.load-in-loop-i.ensures c.load-in-loop-i-2.ensures c.load-in-loop-i-3.ensures c.load-in-loop-i-4.ensures c.load-in-loop-i-5.ensures c.answer_values-line.ensures in
    rows_more answer a.out.now a.at l.out l.behind l.i _ _ l.invariant h
    (line_put _ (line_at answer (l.i * 6)) l.out _ l.behind _ text few (omega (arith, h, l.invariant.room, l.invariant.kept))
    (c.put_line-behind.ensures.place, c.put_line-behind.ensures.bytes))

pub returns : goal.returns
returns c =
    let a = c.args in
    let l = c.loop-i in
    let room = room_there _ _ _ (sym c.lines_fit.ensures ∙ c.if-not-lines_fit.false) in
    record {
      place = (put_in _ a.out.now a.at _ _ _ room
          (rows_done a.answer.now a.out.now _ _ _ l.i l.invariant (omega arith))).0;
      bytes = (put_in _ a.out.now a.at _ _ _ room
          (rows_done a.answer.now a.out.now _ _ _ l.i l.invariant (omega arith))).1;
    }
