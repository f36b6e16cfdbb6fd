-- `all_bits` meets its contract: what is left to test says what all bytes say. Assumes nothing.
use Rattle.laws.specs.Lists.{all_bits}
use lib.ListN.{drop}
use mathlib.Core.Path.{◌≡◌}
use Rattle.numbers.proofs.all_bits.Given as goal

abbrev pub invariant-loop-i : goal.invariant-loop-i
invariant-loop-i l = all_bits (drop l.i l.pattern) ≡ all_bits l.pattern
