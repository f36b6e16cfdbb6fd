-- `put_word` meets its contract: the places before i are covered and counted. Assumes nothing.
use mathlib.Core.Path.{refl, ◌∙◌}
use Prim.Native.Nat.{◌*◌}
use native.Mathlib.Omega.{arith}
use Rattle.groups.specs.inner.Counts.{linked}
use Rattle.groups.proofs.Counting.{word-begins, word_more, count_more}
use Rattle.groups.proofs.put_word.Goals as goal

pub loop-i-init : goal.loop-i-init
loop-i-init c =
    let a = c.args in
    (omega arith, refl, λ low base k. k, word-begins (linked a.links.now) a.v a.plan.now a.count, λ e. e)

pub loop-i-preserved : goal.loop-i-preserved
loop-i-preserved c =
    let l = c.loop-i in
    let p = c.put_place-n in
    let a = c.args in
    let m = word_more (linked a.links.now) a.v l.i l.plan a.count l.n _ p.result (omega arith) (omega arith) p.ensures.rows l.invariant.3 in (
      omega (arith, p.ensures.upper_bound.0),
      p.auto.plan ∙ l.invariant.1,
      λ low base k. p.ensures.upper_bound.1 low base (l.invariant.2 low base k),
      m.0,
      count_more (linked a.links.now) (16 * a.v) l.i a.count l.n p.result l.invariant.4 m.1,
    )
