-- `lined` meets its contract: what is left to look through says what all rows say. Assumes nothing.
use mathlib.Core.Path.{◌≡◌}
use lib.ListN.{drop}
use Rattle.terms.specs.Table.{rows_of, some_row}
use Rattle.jobs.specs.Call.{has_line, breaks43}
use Rattle.states.proofs.lined.Given as goal

abbrev pub invariant-loop-r : goal.invariant-loop-r
invariant-loop-r l = some_row has_line (drop l.r (rows_of l.table)) ≡ breaks43 (rows_of l.table)
