-- `eight_clear` meets its contract: the bits of the marks looked at, taken together, are none. Assumes nothing.
use mathlib.Core.Path.{◌≡◌}
use Rattle.run_rows.specs.inner.Lined.{AllClear}
use Rattle.run_rows.proofs.eight_clear.Given as goal

abbrev pub invariant-loop-i : goal.invariant-loop-i
invariant-loop-i l = l.bits ≡ 0 → AllClear l.after l.before l.r l.i
