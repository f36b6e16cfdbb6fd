-- `differing_words` meets its contract: the bits of the words before place i, and those of the rest, are those of all. Assumes nothing.
use mathlib.Core.Path.{◌≡◌}
use Prim.Native.Nat.{◌+◌, ◌*◌, ◌≤◌}
use lib.ListN.{drop}
use Rattle.recordings.specs.Recordings.{differing_words}
use Rattle.merger.proofs.differing_words.Given as goal

abbrev pub invariant-loop-i : goal.invariant-loop-i
invariant-loop-i l =
    (l.bits ≤ 16 * l.i) × (l.bits + differing_words (drop l.i l.sent) (drop l.i l.received) ≡ differing_words l.sent l.received)
