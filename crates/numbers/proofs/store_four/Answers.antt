-- `store_four` meets its contract. Assumes nothing.
use Rattle.laws.proofs.Buffers.{four_stored, four_out}
use Rattle.numbers.proofs.store_four.Goals as goal

pub returns-then-buffer-at : goal.returns-then-buffer-at
returns-then-buffer-at c = four_out _ _ _ _ _ _ c.if-buffer-at.true

pub returns : goal.returns
returns c = four_stored _ _ _ _ _ _ _ _ _ _ c.store.ensures c.store-2.ensures c.store-3.ensures c.store-4.ensures
