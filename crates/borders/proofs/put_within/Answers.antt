-- `put_within` meets its contract. Assumes nothing.
use Rattle.borders.proofs.Answering.{put-few}
use Rattle.borders.proofs.put_within.Goals as goal

pub returns : goal.returns
returns g c = λ h. put-few c.args.table.now c.args.links.now c.args.answer.now _ g.row.SOURCES _ _ c.put_with.ensures h
