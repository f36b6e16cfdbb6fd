-- `rows_on` meets its contract: the rows passed, with what the rest gives, are what goes on from the first. Assumes nothing.
use Prim.Native.Nat.{◌+◌, ◌-◌, ◌≤◌}
use mathlib.Core.Path.{◌≡◌}
use lib.ListN.{drop}
use Rattle.answers.specs.RightSide.{row_variables, rows_on}
use Rattle.answer_table.proofs.rows_on.Given as goal

abbrev pub invariant-loop-i : goal.invariant-loop-i
invariant-loop-i l =
    (l.i ≤ l.first + (l.end - l.first)) × (l.i + rows_on l.variable (drop l.i (row_variables l.used)) ≡ l.first + rows_on l.variable (drop l.first (row_variables l.used)))
