-- `put_equal` meets its contract: the places of the words before v are covered and counted. Assumes nothing.
use mathlib.Core.Path.{◌≡◌}
use native.Mathlib.Omega.{arith}
use Rattle.groups.proofs.Groups.{covers_all}
use Rattle.groups.proofs.put_equal.Goals as goal

pub returns : goal.returns
returns c =
    let l = c.loop-v in
    let a = c.args in
    let e : l.v ≡ a.k = omega arith in
    covers_all a.links.now a.k a.plan.now l.plan l.count (omega arith) (λ low base k. rw e at (l.invariant.2 low base k)) (λ h. rw e at (l.invariant.3 h))
