-- `find_starts` meets its contract: the starts before place i are taken. Assumes nothing.
use mathlib.Core.Path.{◌≡◌}
use lib.ListN.{length}
use Rattle.positions.specs.inner.Starts.{meets_ahead}
use Rattle.positions.proofs.Taking.{Taking}
use Rattle.positions.proofs.find_starts.Given as goal

abbrev pub invariant-loop-i : goal.invariant-loop-i
invariant-loop-i l = Taking (meets_ahead l.plan l.k) l.words l.initial.list l.list l.found l.i × (length l.list ≡ length l.initial.list)
