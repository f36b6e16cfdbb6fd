-- `window_of` meets its contract. Assumes nothing.
use mathlib.Core.Path.{◌≡◌}
use Prim.Native.Nat.{◌≤◌}
use lib.ListN.{drop}
use Rattle.terms.specs.Table.{rows_of}
use Rattle.words.specs.inner.Windows.{window_of}
use Rattle.words.proofs.Windows.{window_from}
use Rattle.words.proofs.window_of.Given as goal

abbrev pub invariant-loop-r : goal.invariant-loop-r
invariant-loop-r l = (l.k ≤ l.r) × (window_from l.k (drop l.r (rows_of l.table)) ≡ window_of (rows_of l.table))
