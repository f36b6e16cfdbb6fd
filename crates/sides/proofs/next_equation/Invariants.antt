-- `next_equation` meets its contract: what is left to search says what the whole search says. Assumes nothing.
use Rattle.terms.specs.Table.{rows_of, next_equation}
use mathlib.Core.Path.{◌≡◌}
use Rattle.sides.proofs.next_equation.Given as goal

abbrev pub invariant-loop-r : goal.invariant-loop-r
invariant-loop-r l = next_equation (rows_of l.table) l.r l.rows ≡ next_equation (rows_of l.table) l.from l.rows
