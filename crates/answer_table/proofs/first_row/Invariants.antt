-- `first_row` meets its contract: the rows passed, with what the rest gives, are what the whole gives. Assumes nothing.
use Prim.Native.Nat.{◌+◌}
use mathlib.Core.Path.{◌≡◌}
use lib.ListN.{drop}
use Rattle.answers.specs.RightSide.{row_variables, rows_before}
use Rattle.answer_table.proofs.first_row.Given as goal

abbrev pub invariant-loop-i : goal.invariant-loop-i
invariant-loop-i l =
    l.i + rows_before l.variable (drop l.i (row_variables l.used)) ≡ rows_before l.variable (row_variables l.used)
