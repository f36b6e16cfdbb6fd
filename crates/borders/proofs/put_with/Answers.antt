-- `put_with` meets its contract: its parts together, by proofs/Answering.antt. Assumes nothing.
use Rattle.borders.proofs.Answering.{rows_put}
use Rattle.borders.proofs.put_with.Goals as goal

pub returns : goal.returns
returns c =
    let a = c.args in
    rows_put a.table.now a.links.now a.answer.now c.put_places.new.answer a.marks.now c.mark_begins-n.new.marks a.after.now c.mark_uneven.new.uneven a.before.now c.mark_uneven-2.new.uneven a.numbers.now c.mark_begins-n.result _ _ c.mark_begins-n.ensures c.mark_uneven.ensures c.mark_uneven-2.ensures c.put_places.ensures
