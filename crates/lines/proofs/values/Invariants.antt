-- `values` meets its contract: the numbers before an index are pushed. Assumes nothing.
use mathlib.Core.Path.{◌≡◌}
use lib.ListN.{drop}
use Rattle.lines.specs.inner.Push.{push_all, fields}
use Rattle.lines.proofs.values.Given as goal

abbrev pub invariant-loop-i : goal.invariant-loop-i
invariant-loop-i l = push_all l.line (fields (drop l.i l.numbers)) ≡ push_all l.initial.line (fields l.numbers)
