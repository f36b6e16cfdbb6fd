-- `put_rows` meets its contract: the counts are stored last. Assumes nothing.
use Rattle.words.proofs.Planning.{planned}
use Rattle.words.proofs.put_rows.Goals as goal

pub returns : goal.returns
returns c =
    planned _ _ _ _ _ _ _ _ _ _ c.put_fixed-fixed.ensures c.put_equal-equal.ensures c.put_fixed-fixed.auto.plan c.put_equal-equal.auto.plan
    c.narrow.ensures c.store.ensures c.store-2.ensures
