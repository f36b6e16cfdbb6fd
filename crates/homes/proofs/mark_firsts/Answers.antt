-- `mark_firsts` meets its contract: the invariant is `Marking`, of proofs/Testing.antt. Assumes nothing.
use Rattle.homes.proofs.Testing.{marking_done}
use Rattle.homes.proofs.mark_firsts.Goals as goal

pub returns : goal.returns
returns c = marking_done _ _ _ _ _ _ c.loop-i.invariant c.loop-i-test.false
