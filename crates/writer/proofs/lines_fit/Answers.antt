-- `lines_fit` meets its contract: no sum that can wrap is formed. Assumes nothing.
use mathlib.Core.Path.{◌∙◌}
use native.Mathlib.Omega.{arith}
use borrow.Author.Tests.{lt-leb}
use Rattle.sheets.proofs.Printed.{place_past, lines_there}
use Rattle.writer.proofs.lines_fit.Goals as goal

pub returns-else-at-room : goal.returns-else-at-room
returns-else-at-room c = lt-leb _ _ (omega (arith, c.if-at-room.false)) ∙ place_past _ _ _ (omega (arith, c.if-at-room.false))

pub returns-then-at-room : goal.returns-then-at-room
returns-then-at-room c = lines_there _ _ _ (omega (arith, c.if-at-room.true))
