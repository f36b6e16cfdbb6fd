-- `whole` meets its contract. Assumes nothing.
use mathlib.Core.Path.{◌∙◌}
use borrow.Author.Tests.{lt-leb}
use Rattle.merger.proofs.Stops.{too_long, whole_is}
use Rattle.merger.proofs.whole.Goals as goal

pub returns-then-numbers-le-MAX_RECORDING : goal.returns-then-numbers-le-MAX_RECORDING
returns-then-numbers-le-MAX_RECORDING c = whole_is _ _ c.if-numbers-le-MAX_RECORDING.true

pub returns-else-numbers-le-MAX_RECORDING : goal.returns-else-numbers-le-MAX_RECORDING
returns-else-numbers-le-MAX_RECORDING c = lt-leb _ _ c.if-numbers-le-MAX_RECORDING.false ∙ too_long _ _ c.if-numbers-le-MAX_RECORDING.false
