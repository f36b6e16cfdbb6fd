-- `differ` meets its contract: the bits so far are none exactly if the numbers so far are equal. Assumes nothing.
use mathlib.Core.Path.{◌≡◌, refl, ◌∙◌, ap}
use Prim.Native.Nat.{ℕ, min}
use native.Mathlib.Omega.{arith}
use lib.Dec.{eqb}
use lib.ListN.{length, get_or}
use Rattle.laws.specs.Lists.{below}
use Rattle.areas.specs.inner.Areas.{agree}
use Rattle.areas.proofs.Areas.{none_first}
use Rattle.matcher.proofs.Comparing.{differ_more}
use Rattle.matcher.proofs.differ.Goals as goal

pub loop-i-init : goal.loop-i-init
loop-i-init c = none_first _

pub loop-i-preserved : goal.loop-i-preserved
loop-i-preserved c = differ_more c.args.a.now c.args.b.now c.loop-i.i c.loop-i.bits _ _ refl refl c.loop-i.invariant

pub returns : goal.returns
unfolding agree
returns c =
    let a = c.args.a.now in
    let b = c.args.b.now in
    let whole : c.loop-i.i ≡ min (length a) (length b) = omega (arith, c.loop-i-test.false, c.loop-i.auto.i-end, c.min-i-end.ensures) in
    c.loop-i.invariant ∙ ap (λ (k : ℕ). below k (λ j. eqb (get_or a j 0) (get_or b j 0))) whole
