-- `put_rows` meets its contract. Assumes nothing.
use Rattle.run_rows.proofs.Lining.{put_all}
use Rattle.run_rows.proofs.put_rows.Goals as goal

pub returns : goal.returns
returns c =
    let a = c.args in
    put_all a.table.now a.links.now a.last.now a.answer.now _ _ _ c.put_with.ensures
