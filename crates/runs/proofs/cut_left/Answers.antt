-- `cut_left` meets its contract. Assumes nothing.
use native.Mathlib.Omega.{arith}
use Rattle.runs.proofs.Cutting.{left_cut}
use Rattle.runs.proofs.cut_left.Goals as goal

pub returns-then-f-lo : goal.returns-then-f-lo
returns-then-f-lo c = left_cut _ _ _ _ _ _ _ _ _ c.if-f-lo.true (omega arith) c.from.ensures c.from-then-f-lo.ensures c.put_run.ensures c.from-then-f-lo-2.ensures c.store.ensures
