-- `bits_together` meets its contract: the bits so far are none exactly if each number so far is 0. Assumes nothing.
use mathlib.Core.Path.{◌≡◌}
use lib.Dec.{eqb}
use lib.ListN.{get_or}
use Rattle.laws.specs.Lists.{below}
use Rattle.areas.proofs.bits_together.Given as goal

abbrev pub invariant-loop-x : goal.invariant-loop-x
invariant-loop-x l = eqb l.bits 0 ≡ below l.x-index (λ k. eqb (get_or l.numbers k 0) 0)
