-- `find` meets its contract: the invariant is `Searching`, of proofs/Finding.antt. Assumes nothing.
use native.Mathlib.Omega.{arith}
use Rattle.runs.proofs.Finding.{search_more, search_root, search_fixed}
use Rattle.runs.proofs.find.Goals as goal

pub loop-x-preserved : goal.loop-x-preserved
loop-x-preserved c =
    let l = c.loop-x in
    λ shut first R low few small some.
    search_more shut _ _ first R low few _ _ l.x l.len small (l.invariant shut first R low few small some) c.loop-x-test.true _ _ c.rest.ensures
    c.min-len.ensures _ _ c.from.ensures c.load-g.ensures (omega (arith, c.if-x-g.false))

pub returns-after-loop-x : goal.returns-after-loop-x
returns-after-loop-x c =
    let l = c.loop-x in
    λ shut first R low few one small some.
    search_fixed shut _ _ first R low few _ _ l.x l.len small (l.invariant shut first R low few small some) one (omega (arith, c.loop-x-test.false))

pub returns-then-x-g : goal.returns-then-x-g
returns-then-x-g c =
    let l = c.loop-x in
    λ shut first R low few one small some.
    search_root shut _ _ first R low few _ _ l.x l.len small (l.invariant shut first R low few small some) c.loop-x-test.true _ _ c.rest.ensures
    c.min-len.ensures _ _ c.from.ensures c.load-g.ensures c.if-x-g.true
