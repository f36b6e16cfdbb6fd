-- `differ` meets its contract: the bits so far are none exactly if the numbers so far are equal. Assumes nothing.
use mathlib.Core.Path.{◌≡◌}
use lib.Dec.{eqb}
use lib.ListN.{get_or}
use Rattle.laws.specs.Lists.{below}
use Rattle.matcher.proofs.differ.Given as goal

abbrev pub invariant-loop-i : goal.invariant-loop-i
invariant-loop-i l = eqb l.bits 0 ≡ below l.i (λ k. eqb (get_or l.a k 0) (get_or l.b k 0))
