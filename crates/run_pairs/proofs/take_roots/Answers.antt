-- `take_roots` meets its contract. Assumes nothing.
use native.Mathlib.Omega.{arith}
use Rattle.run_pairs.proofs.Taking.{taken_nothing, taken_clash, taken_tie}
use Rattle.run_pairs.proofs.take_roots.Goals as goal

pub returns-then-lo-hi : goal.returns-then-lo-hi
returns-then-lo-hi c =
    let f = c.find-f in
    let g = c.find-g in
    λ shut S a_small b_small some.
    let x = f.ensures shut _ S.runs S.low (omega (arith, S.few)) S.one a_small some in
    let y = g.ensures shut _ S.runs S.low (omega (arith, S.few)) S.one b_small x.some in
    taken_nothing shut _ _ _ S _ _ _ _ _ _ _ x y a_small b_small _ _ c.max-hi.ensures c.min-lo.ensures c.if-lo-hi.true _ _ _ _ _ _ c.shorten.ensures c.shorten-then-lo-hi.ensures c.shorten.auto.links

pub returns-then-hi-eq1 : goal.returns-then-hi-eq1
returns-then-hi-eq1 c =
    let f = c.find-f in
    let g = c.find-g in
    λ shut S a_small b_small some.
    let x = f.ensures shut _ S.runs S.low (omega (arith, S.few)) S.one a_small some in
    let y = g.ensures shut _ S.runs S.low (omega (arith, S.few)) S.one b_small x.some in
    taken_clash shut _ _ _ S _ _ _ _ _ _ _ x y a_small b_small _ _ c.max-hi.ensures c.min-lo.ensures c.if-lo-hi.false c.if-hi-eq1.true

pub returns : goal.returns
returns c =
    let f = c.find-f in
    let g = c.find-g in
    λ shut S a_small b_small some.
    let x = f.ensures shut _ S.runs S.low (omega (arith, S.few)) S.one a_small some in
    let y = g.ensures shut _ S.runs S.low (omega (arith, S.few)) S.one b_small x.some in
    taken_tie shut _ _ _ S _ _ _ _ _ _ _ x y a_small b_small _ _ c.max-hi.ensures c.min-lo.ensures c.if-lo-hi.false c.if-hi-eq1.false _ c.apart-tied.ensures
    _ _ _ c.carve.ensures c.carve.auto.links c.carve.auto.last c.carve.auto.first _ _ _ _ _ _ c.shorten-2.ensures c.shorten-3.ensures c.shorten-2.auto.links
