-- `take_equations` meets its contract: between equations the invariant is `Between`, of crate taking. Assumes nothing.
use mathlib.Core.Path.{refl, ◌∙◌}
use Prim.Native.Nat.{◌+◌, ◌<◌}
use native.Mathlib.Omega.{arith}
use Rattle.terms.proofs.NextEquation.{next_forth, next_passed}
use Rattle.taking.proofs.Taking.{between_first, between_more, between_next, between_conflict, between_done}
use Rattle.run_equations.proofs.Asked.{Given, all-rows}
use Rattle.run_equations.proofs.Pairs.{runs_taking, pairs_again, next_is}
use Rattle.run_equations.proofs.take_equations.Goals as goal

pub loop-r-init : goal.loop-r-init
loop-r-init c = (
  omega arith,
  omega arith,
  omega arith,
  omega arith,
  refl,
  refl,
  refl,
  refl,
  refl,
  refl,
  λ l. next_is _ 0 _ _ c.next_equation-r.ensures l,
  λ shut g.
      (between_next _ _ _ g.within _ _ _ _ _ (between_first _ _ _ g.within _ _ g.held refl) (next_passed _ _ _ _ _ (omega arith) (all-rows _ _ _ g.prepared g.within c.min-rows.ensures) c.next_equation-r.ensures), g.state),
)

pub returns-in_default : goal.returns-in_default
returns-in_default c =
    let o = c.loop-r in
    record {
      equations = λ room shut S p l r f within e.
          let g : Given shut c.args.table.now c.args.widths.now c.args.variables.now c.args.lows.now c.args.to c.args.left.now c.args.right.now c.args.cuts.now c.args.links.now c.args.last.now c.args.first.now = record { cut-room = room; state = S; prepared = p; left_room = l; right_room = r; within = within; held = e } in
          let B = o.invariant.11 shut g in
          let P = c.in_default.ensures.conflict p (omega (arith, c.loop-r-test.true, c.min-rows.ensures, within)) (o.invariant.10 c.loop-r-test.true) (omega (arith, l, o.invariant.4)) (omega (arith, r, o.invariant.5)) (omega (arith, room, o.invariant.6)) shut B.1 B.0.held.sources in
          between_conflict _ _ _ within _ _ _ _ B.0 (omega (arith, c.loop-r-test.true, c.min-rows.ensures)) (P.clash refl) _ o.invariant.3;
      runs = λ room shut S p l r within e same. absurd (omega (arith, same, c.loop-r-test.true, c.min-rows.ensures));
    }

pub loop-r-smaller : goal.loop-r-smaller
loop-r-smaller c = omega (arith, c.loop-r-test.true, next_forth _ _ _ _ c.next_equation-r-in-loop-r.ensures)

pub loop-r-preserved : goal.loop-r-preserved
loop-r-preserved c =
    let o = c.loop-r in
    let t = c.take_equation in
    let few = c.in-Ok.ensures.few in
    let n = c.next_equation-r-in-loop-r in
    let on = next_forth _ _ _ _ n.ensures in (
      omega (arith, o.invariant.0, few.0, on),
      omega (arith, o.invariant.1, few.1, on),
      omega (arith, o.invariant.2, few.2, on),
      omega (arith, o.invariant.0, few.0, c.loop-r-test.true, c.min-rows.ensures),
      t.auto.left ∙ o.invariant.4,
      t.auto.right ∙ o.invariant.5,
      t.auto.cuts ∙ o.invariant.6,
      t.auto.links ∙ o.invariant.7,
      t.auto.last ∙ o.invariant.8,
      t.auto.first ∙ o.invariant.9,
      λ l. next_is _ (o.r + 1) _ _ n.ensures l,
      λ shut g.
          let B = o.invariant.11 shut g in
          let low : o.r < c.args.to = omega (arith, c.loop-r-test.true, c.min-rows.ensures) in
          let P = c.in-Ok.ensures.taken g.prepared (omega (arith, low, g.within)) (o.invariant.10 c.loop-r-test.true) (omega (arith, g.left_room, o.invariant.4)) (omega (arith, g.right_room, o.invariant.5)) (omega (arith, g.cut-room, o.invariant.6)) shut B.1 B.0.held.sources in (
            between_next _ _ _ g.within _ _ _ (o.r + 1) _
                (between_more _ _ _ g.within _ _ _ _ B.0 low _ _ _ _ _ (runs_taking _ shut _ _ _ _ _ _ _ B.0.held t.auto.links P refl) (pairs_again _))
                (next_passed _ (o.r + 1) _ _ _ (omega (arith, low)) (all-rows _ _ _ g.prepared g.within c.min-rows.ensures) n.ensures),
            P.state refl,
          ),
    )

pub returns : goal.returns
returns c =
    let o = c.loop-r in
    record {
      equations = λ room shut S p l r f within e.
          let g : Given shut c.args.table.now c.args.widths.now c.args.variables.now c.args.lows.now c.args.to c.args.left.now c.args.right.now c.args.cuts.now c.args.links.now c.args.last.now c.args.first.now = record { cut-room = room; state = S; prepared = p; left_room = l; right_room = r; within = within; held = e } in
          between_done _ _ _ within _ _ _ _ (o.invariant.11 shut g).0 (omega (arith, c.loop-r-test.false, all-rows _ _ _ p within c.min-rows.ensures)) o.invariant.3;
      runs = λ room shut S p l r within e same.
          let g : Given shut c.args.table.now c.args.widths.now c.args.variables.now c.args.lows.now c.args.to c.args.left.now c.args.right.now c.args.cuts.now c.args.links.now c.args.last.now c.args.first.now = record { cut-room = room; state = S; prepared = p; left_room = l; right_room = r; within = within; held = e } in
          (o.invariant.11 shut g).1;
    }
