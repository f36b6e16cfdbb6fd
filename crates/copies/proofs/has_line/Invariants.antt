-- `has_line` meets its contract: what is left to search says what the whole search says. Assumes nothing.
use mathlib.Core.Path.{◌≡◌}
use lib.ListN.{drop}
use Rattle.terms.specs.Table.{rows_of, some_row, of_line}
use Rattle.copies.proofs.has_line.Given as goal

abbrev pub invariant-loop-i : goal.invariant-loop-i
invariant-loop-i l = some_row (of_line l.line) (drop l.i (rows_of l.table)) ≡ some_row (of_line l.line) (drop l.from (rows_of l.table))
