-- `put_answer` meets its contract: the rows behind the names. Assumes nothing.
use mathlib.Core.Path.{sym, ◌∙◌}
use Rattle.sheets.proofs.Printed.{room_there, room_not_there, put_none}
use Rattle.writer.proofs.Lines.{answer_put}
use Rattle.writer.proofs.put_answer.Goals as goal

pub returns-then-not-lines_fit : goal.returns-then-not-lines_fit
returns-then-not-lines_fit c =
    record { place = (put_none _ _ _ _ (room_not_there _ _ _ (sym c.lines_fit.ensures ∙ c.if-not-lines_fit.true))).0; bytes = (put_none _ _ _ _ (room_not_there _ _ _ (sym c.lines_fit.ensures ∙ c.if-not-lines_fit.true))).1 }

pub returns : goal.returns
returns c =
    let a = c.args in
    let room = room_there _ _ _ (sym c.lines_fit.ensures ∙ c.if-not-lines_fit.false) in
    record {
      place = (answer_put a.answer.now _ a.out.now _ _ a.at _ _ room
          c.answer_names.ensures (c.put_line-behind.ensures.place, c.put_line-behind.ensures.bytes) (c.put_rows.ensures.place, c.put_rows.ensures.bytes)).0;
      bytes = (answer_put a.answer.now _ a.out.now _ _ a.at _ _ room
          c.answer_names.ensures (c.put_line-behind.ensures.place, c.put_line-behind.ensures.bytes) (c.put_rows.ensures.place, c.put_rows.ensures.bytes)).1;
    }
