-- `find_group` meets its contract: the last row is the last of those below g. Assumes nothing.
use mathlib.Core.Path.{◌≡◌}
use Rattle.groups.specs.inner.Groups.{last_row}
use Rattle.groups.proofs.find_group.Given as goal

abbrev pub invariant-loop-g : goal.invariant-loop-g
invariant-loop-g l = last_row l.plan l.x l.y l.shift l.from l.count ≡ last_row l.plan l.x l.y l.shift l.from l.g
