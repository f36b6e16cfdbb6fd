-- `put_never` meets its contract. Assumes nothing.
use Rattle.words.proofs.Planning.{never_put}
use Rattle.words.proofs.put_never.Goals as goal

pub returns : goal.returns
returns c =
    never_put _ _ _ c.store_four.ensures c.store_four-2.ensures
