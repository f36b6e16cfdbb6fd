-- `cut_sides` meets its contract: the invariant is `Cutting`, of proofs/Cutting.antt. Assumes nothing.
use mathlib.Core.Path.{refl, ◌∙◌}
use native.Mathlib.Omega.{arith}
use Rattle.slicer.proofs.Cutting.{equation_first, equation_borders_first, equation_more, equation_borders, equation_cut}
use Rattle.slicer.proofs.cut_sides.Goals as goal

pub loop-k-init : goal.loop-k-init
loop-k-init c = (
  omega arith,
  refl,
  λ table widths variables r E room. (
    equation_first table widths variables _ _ _ r _ E _ _ _ c.first-a.ensures.is c.first-b.ensures.is c.first-a.ensures.stands c.first-b.ensures.stands,
    equation_borders_first table widths variables _ _ _ r _ E _,
  ),
)

pub loop-k-preserved : goal.loop-k-preserved
loop-k-preserved c =
    let l = c.loop-k in (
      omega (arith, l.invariant.0, c.from-k.ensures, c.max.ensures),
      c.put_slice.auto.cuts ∙ l.invariant.1,
      λ table widths variables r E room.
          let on = l.invariant.2 table widths variables r E room in
          let lo = c.min-w.ensures in (
            equation_more table widths variables _ _ _ r _ E c.args.cuts.now _ _ _ _ _ on.0 room l.invariant.1 _ _ _ c.min-bits.ensures c.loop-k-test.true refl _ c.put_slice.ensures _ _ c.max.ensures c.from-k.ensures (omega (arith, lo)) _ _ c.pass-a.ensures c.pass-b.ensures,
            equation_borders table widths variables _ _ _ r _ E c.args.cuts.now _ _ _ _ _ on.0 room l.invariant.1 _ _ _ c.min-bits.ensures c.loop-k-test.true refl _ c.put_slice.ensures _ _ c.max.ensures c.from-k.ensures lo on.1,
          ),
    )

pub returns : goal.returns
returns c = λ table widths variables r E room. let on = c.loop-k.invariant.2 table widths variables r E room in equation_cut table widths variables _ _ _ r _ E _ _ _ _ _ on.0 on.1 _ c.min-bits.ensures (omega (arith, c.loop-k-test.false))
