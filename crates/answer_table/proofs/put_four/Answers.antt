-- `put_four` meets its contract: the columns stand side by side. Assumes nothing.
use Rattle.answer_table.specs.inner.Rows.{four_put}
use Rattle.answer_table.proofs.put_four.Goals as goal

pub returns : goal.returns
unfolding four_put
returns c = rw (← c.from-at.ensures) c.store_four.ensures
