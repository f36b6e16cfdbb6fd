-- `next_variable` meets its contract: no variable stands between. Assumes nothing.
use mathlib.Core.Path.{◌≡◌}
use lib.ListN.{drop}
use Rattle.terms.specs.Table.{rows_of}
use Rattle.answers.specs.Answer.{variable_widths}
use Rattle.comparer.proofs.next_variable.Given as goal

abbrev pub invariant-loop-r : goal.invariant-loop-r
invariant-loop-r l = variable_widths (drop l.from (rows_of l.table)) ≡ variable_widths (drop l.r (rows_of l.table))
