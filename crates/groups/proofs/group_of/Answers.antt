-- `group_of` meets its contract, for each way that the words are turned. Assumes nothing.
use native.Mathlib.Omega.{arith}
use Rattle.groups.proofs.Groups.{group_up, group_down}
use Rattle.groups.proofs.group_of.Goals as goal

pub returns-then-q-p : goal.returns-then-q-p
returns-then-q-p c = let g = c.upward.ensures in group_up _ _ _ _ _ _ c.requires c.if-q-p.true g.0 g.1 g.2 g.3

pub returns : goal.returns
returns c = let g = c.upward-2.ensures in group_down _ _ _ _ _ _ c.requires (omega arith) g.0 g.1 g.2 g.3
