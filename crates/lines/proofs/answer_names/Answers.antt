-- `answer_names` meets its contract. Assumes nothing.
use native.Mathlib.Omega.{arith}
use Rattle.lines.proofs.Pushing.{whole_line}
use Rattle.lines.proofs.answer_names.Goals as goal

pub returns : goal.returns
returns c = whole_line _ _ _ (omega arith) c.empty.ensures c.put_bytes.ensures
