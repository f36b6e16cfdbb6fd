-- `mark_first` meets its contract: each way out has its law in proofs/Testing.antt. Assumes nothing.
use Rattle.homes.proofs.Testing.{mark_of_fill, mark_of_later}
use mathlib.Core.Logic.{inl, inr}
use Rattle.homes.proofs.mark_first.Goals as goal

pub returns-then-row-lt-FRESH : goal.returns-then-row-lt-FRESH
returns-then-row-lt-FRESH c = elim c.then-row-lt-FRESH.either [ inl l ↦ mark_of_fill _ _ _ _ l | inr p ↦ mark_of_later _ _ _ _ p.1 ]
