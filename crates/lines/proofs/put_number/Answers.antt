-- `put_number` meets its contract. Assumes nothing.
use Rattle.lines.proofs.Pushing.{push_field}
use Rattle.lines.proofs.put_number.Goals as goal

pub returns : goal.returns
returns c = push_field _ _ _ _ _ c.put_digits.ensures c.push.ensures
