-- `put_pieces` meets its contract: the lines of the first i pieces are put. Assumes nothing.
use mathlib.Core.Path.{◌≡◌}
use lib.ListN.{length}
use Rattle.details.specs.inner.Printing.{pieces_behind, pieces_put}
use Rattle.details.proofs.put_pieces.Given as goal

abbrev pub invariant-loop-i : goal.invariant-loop-i
invariant-loop-i l =
    (length l.out ≡ length l.initial.out) × (l.behind ≡ pieces_behind (length l.initial.out) l.at l.form l.i) × (l.out ≡ pieces_put l.initial.out l.at l.form l.i)
