-- `bits_together` meets its contract: the bits so far are none exactly if each number so far is 0. Assumes nothing.
use mathlib.Core.Path.{◌≡◌, refl, ◌∙◌, ap}
use Prim.Native.Nat.{ℕ}
use native.Mathlib.Omega.{arith}
use lib.Dec.{eqb}
use lib.ListN.{length, get_or}
use Rattle.laws.specs.Lists.{below}
use Rattle.areas.specs.inner.Areas.{all_zero}
use Rattle.areas.proofs.Areas.{none_first, together_more}
use Rattle.areas.proofs.bits_together.Goals as goal

pub loop-x-init : goal.loop-x-init
loop-x-init c = none_first _

pub loop-x-preserved : goal.loop-x-preserved
loop-x-preserved c = together_more c.args.numbers.now c.loop-x.x-index c.loop-x.bits _ refl c.loop-x.invariant

pub returns : goal.returns
unfolding all_zero
returns c =
    let numbers = c.args.numbers.now in
    let whole : c.loop-x.x-index ≡ length numbers = omega (arith, c.loop-x.auto.x-index-end, c.loop-x-test.false) in
    c.loop-x.invariant ∙ ap (λ (k : ℕ). below k (λ j. eqb (get_or numbers j 0) 0)) whole
