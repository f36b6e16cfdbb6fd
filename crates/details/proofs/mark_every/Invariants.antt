-- `mark_every` meets its contract: the first i bytes are marks. Assumes nothing.
use mathlib.Core.Path.{◌≡◌}
use lib.ListN.{length}
use Rattle.laws.specs.Buffers.{overwrite}
use Rattle.details.specs.inner.Printing.{marks}
use Rattle.details.proofs.mark_every.Given as goal

abbrev pub invariant-loop-i : goal.invariant-loop-i
invariant-loop-i l = (length l.bits ≡ length l.initial.bits) × (l.bits ≡ overwrite (marks l.first l.step l.i) l.initial.bits)
