-- `put_with` meets its contract: its parts together. Assumes nothing.
use Rattle.run_rows.proofs.Lining.{rows_in_runs}
use Rattle.run_rows.proofs.put_with.Goals as goal

pub returns : goal.returns
returns c =
    let a = c.args in
    rows_in_runs a.table.now a.links.now a.last.now a.answer.now c.put_places.new.answer a.marks.now c.mark_begins-n.new.marks a.after.now c.mark_runs.new.uneven a.before.now c.mark_runs-2.new.uneven a.numbers.now c.mark_begins-n.result _ _ c.mark_begins-n.ensures c.mark_runs.ensures c.mark_runs-2.ensures c.put_places.ensures
