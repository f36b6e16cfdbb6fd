-- `put_holders` meets its contract: so many holders stand in front of what was there. Assumes nothing.
use mathlib.Core.Path.{◌≡◌}
use lib.ListN.{take}
use Rattle.laws.specs.Buffers.{overwrite}
use Rattle.areas.specs.inner.Areas.{held_by}
use Rattle.areas.proofs.put_holders.Given as goal

abbrev pub invariant-loop-i : goal.invariant-loop-i
invariant-loop-i l = l.work ≡ overwrite (take l.i (held_by l.fn.links)) l.initial.work
