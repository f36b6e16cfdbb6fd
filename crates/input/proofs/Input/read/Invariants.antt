-- `read` meets its contract: each turn leaves less to come. Assumes nothing.
use Rattle.input.specs.Reading.{InBounds}
use Rattle.input.proofs.Reading.{left}
use Rattle.input.proofs.Input.read.Given as goal

abbrev pub invariant-loop-stdin : goal.invariant-loop-stdin
invariant-loop-stdin l = InBounds l.input

abbrev pub decreases-loop-stdin : goal.decreases-loop-stdin
decreases-loop-stdin l = left l.input
