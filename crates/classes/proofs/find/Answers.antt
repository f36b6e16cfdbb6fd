-- `find` meets its contract: x is a source of the class of s, its link is p, and the links stand for the same classes. Assumes nothing.
use mathlib.Core.Path.{refl, ap}
use Prim.Native.Nat.{ℕ}
use native.Mathlib.Omega.{arith}
use lib.ListN.{get_or, length-set}
use Rattle.classes.proofs.Roots.{found_is}
use Rattle.classes.proofs.Links.{finding_more, finding_done, finding_near}
use Rattle.classes.proofs.find.Goals as goal

pub returns-then-p-g : goal.returns-then-p-g
returns-then-p-g c =
    let w = c.loop-p in
    λ low small.
    let f = w.invariant.2 low small in
    found_is _ _ _ _ low (finding_near _ _ _ w.x w.p f (omega (arith, c.if-p-g.true, ap (λ (n : ℕ). get_or w.links n 0) c.from-in-loop-p.ensures, f.low w.p)))

pub loop-p-preserved : goal.loop-p-preserved
loop-p-preserved c =
    let w = c.loop-p in (
      simp length-set (omega (arith, c.if-p-g.false, c.loop-p-test.true, w.invariant.0)),
      rw c.from-in-loop-p-3.ensures refl,
      λ low small. rw (c.from-in-loop-p-2.ensures, c.from-in-loop-p-3.ensures) (finding_more _ w.links _ w.x w.p _ (w.invariant.2 low small) (ap (λ (n : ℕ). get_or w.links n 0) c.from-in-loop-p.ensures)),
    )

pub returns : goal.returns
returns c =
    let w = c.loop-p in
    λ low small.
    let f = w.invariant.2 low small in
    found_is _ _ _ _ low (finding_done _ _ _ w.x w.p f (omega (arith, c.loop-p-test.false, f.near)))
