-- `take_run` meets its contract. Assumes nothing.
use Rattle.run_pairs.proofs.Taking.{taken_alike}
use Rattle.run_pairs.proofs.take_run.Goals as goal

pub returns-then-alike : goal.returns-then-alike
returns-then-alike c = taken_alike _ _ _ _ _ _ _ _ _ _ (c.alike.ensures c.if-alike.true) c.rest.ensures c.rest-then-alike.ensures c.min.ensures c.min-then-alike.ensures
