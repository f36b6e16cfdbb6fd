-- `take_equations` meets its contract: the equations outside, their bit pairs inside, and a label that leaves both. Within an equation the
-- readers stand at bit k of the two forms, and nothing is written to these. Assumes nothing.
use mathlib.Core.Logic.{◌≢◌}
use mathlib.Core.Path.{◌≡◌, refl, sym, ap, ◌∙◌, subst}
use mathlib.Core.List.{List}
use Prim.Native.Nat.{ℕ, ◌<◌, ◌+◌}
use native.Mathlib.Omega.{arith}
use lib.ListN.{get_or}
use Rattle.terms.specs.Table.{rows_of, row_at}
use Rattle.answers.specs.Pairs.{Pair}
use Rattle.answers.specs.inner.Classes.{rep, run}
use Rattle.classes.specs.inner.Links.{number_of, roots_of, PairTaken}
use Rattle.sides.specs.inner.Reading.{Stands}
use Rattle.sides.specs.inner.Sides.{SidesWritten, SidesRead, left_side, right_side, pairs_from}
use Rattle.terms.proofs.NextEquation.{next_forth, next_passed}
use Rattle.sides.proofs.EquationPairs.{sides_read}
use Rattle.taking.specs.inner.Equations.{Holding}
use Rattle.taking.proofs.Asked.{Given, Room, all-rows}
use Rattle.taking.proofs.Passing.{eight_alike, eight_on, eight_stand}
use Rattle.taking.proofs.Taking.{Taking, taking_held, taking_alike, taking_to, taking_conflict, between_first, between_more, between_next, between_conflict, between_done}
use Rattle.taking.proofs.Forms.{standing_first, standing_next, standing_more, standing_on, standing_end, standing_conflict}
use Rattle.taking.proofs.take_equations.Goals as goal
use Rattle.taking.proofs.take_equations.Goals.{in-Nothing, in-Tie}
use Rattle.taking.proofs.take_equations.Lts as lts
use Rattle.taking.proofs.take_equations.Tie as tie
use Rattle.taking.proofs.take_equations.Reads as reads

-- the row is below `to`
row_below : (d : lts.After-min2 tie.the-claims reads.Pre reads.Post goal.the-invariant-loop-k goal.the-decreases-loop-k goal.the-invariant-solve goal.the-decreases-solve tie.handed_clauses) → d.solve.r < d.args.to
row_below d = omega (arith, d.solve-test.true, d.min-rows.ensures)

-- its sides are written
written : (d : lts.After-min2 tie.the-claims reads.Pre reads.Post goal.the-invariant-loop-k goal.the-decreases-loop-k goal.the-invariant-solve goal.the-decreases-solve tie.handed_clauses) → Room d.args.table.now d.args.widths.now d.args.variables.now d.args.from d.args.to d.args.left.now d.args.right.now
    → SidesWritten (rows_of d.args.table.now) d.solve.r d.solve.left d.put_sides-pairs.new.left d.solve.right d.put_sides-pairs.new.right d.put_sides-pairs.result
written d g =
    let o = d.solve in
    d.put_sides-pairs.ensures g.numbered (omega (arith, row_below d, g.within)) (omega (arith, g.left_room, o.invariant.2)) (omega (arith, g.right_room, o.invariant.3))

-- its bit pairs are read
sides : (d : lts.After-min2 tie.the-claims reads.Pre reads.Post goal.the-invariant-loop-k goal.the-decreases-loop-k goal.the-invariant-solve goal.the-decreases-solve tie.handed_clauses) → Given d.args.table.now d.args.widths.now d.args.variables.now d.args.lows.now d.args.from d.args.to d.args.left.now d.args.right.now d.args.links.now → SidesRead (rows_of d.args.table.now) d.solve.r d.args.lows.now d.put_sides-pairs.new.left d.put_sides-pairs.new.right d.min-width.result
sides d g =
    let o = d.solve in
    let small : Room d.args.table.now d.args.widths.now d.args.variables.now d.args.from d.args.to d.args.left.now d.args.right.now = record { numbered = g.prepared.numbered; left_room = g.left_room; right_room = g.right_room; forth = g.forth; within = g.within } in
    let s = sides_read _ _ _ _ g.prepared _ (omega (arith, row_below d, g.within)) _ _ _ _ _ (omega (arith, g.left_room, o.invariant.2)) (omega (arith, g.right_room, o.invariant.3)) (written d small) in
    let e : d.put_sides-pairs.result ≡ d.min-width.result = omega (arith, s.few, d.min-width.ensures) in
    subst (SidesRead (rows_of d.args.table.now) o.r d.args.lows.now d.put_sides-pairs.new.left d.put_sides-pairs.new.right) e s

-- the pair that was taken
pair-taken : (d : lts.After-take_pair tie.the-claims reads.Pre reads.Post goal.the-invariant-loop-k goal.the-decreases-loop-k goal.the-invariant-solve goal.the-decreases-solve tie.handed_clauses)
    → Holding (rows_of d.args.table.now) d.solve.links
    → SidesRead (rows_of d.args.table.now) d.solve.r d.args.lows.now d.put_sides-pairs.new.left d.put_sides-pairs.new.right d.min-width.result
    → PairTaken d.loop-k.links d.take_pair.new.links (get_or (left_side (rows_of d.args.table.now) (row_at (rows_of d.args.table.now) d.solve.r)) d.loop-k.k 0) (get_or (right_side (rows_of d.args.table.now) (row_at (rows_of d.args.table.now) d.solve.r)) d.loop-k.k 0) (number_of d.take_pair.result)
pair-taken d b s =
    let l = d.loop-k in
    let k = d.loop-k-test.true in
    let x = s.left_read l.k l.a k (l.invariant.3 s).0 in
    let y = s.right_read l.k l.b k (l.invariant.3 s).1 in
    rw (← x, ← y) (d.take_pair.ensures (l.invariant.4 b s).low (omega (arith, x, s.left_small l.k k, l.invariant.2, b.sources)) (omega (arith, y, s.right_small l.k k, l.invariant.2, b.sources)))

pub solve-init : goal.solve-init
solve-init c = (
  omega arith,
  omega arith,
  refl,
  refl,
  refl,
  λ g. between_next _ _ _ g.within _ _ _ _ _ (between_first _ _ _ g.within _ _ g.held refl) (next_passed _ _ _ _ _ g.forth (all-rows _ _ _ g.prepared.numbered g.within c.min-rows.ensures) c.next_equation-r.ensures),
  λ g. standing_next _ _ _ _ _ _ _ _ (standing_first _ _ _ _ _ g.forth) _ (next_passed _ _ _ _ _ g.forth (all-rows _ _ _ g.numbered g.within c.min-rows.ensures) c.next_equation-r.ensures),
)

pub loop-k-init : goal.loop-k-init
loop-k-init c = (
  omega arith,
  omega arith,
  refl,
  λ s. (c.first-a.ensures.stands, c.first-b.ensures.stands),
  λ b s. taking_held _ _ _ _ b,
)

pub loop-k-preserved-then-alike : goal.loop-k-preserved-then-alike
loop-k-preserved-then-alike c =
    let l = c.loop-k in
    let k = c.loop-k-test.true in
    let al = c.alike.ensures.only_alike c.if-alike.true in
    let on : SidesRead (rows_of c.args.table.now) c.solve.r c.args.lows.now c.put_sides-pairs.new.left c.put_sides-pairs.new.right c.min-width.result → Stands c.args.lows.now c.put_sides-pairs.new.left c.min-k.result c.skip-a.result × Stands c.args.lows.now c.put_sides-pairs.new.right c.min-k.result c.skip-b.result =
    λ s. eight_stand _ _ _ _ _ _ s l.k k l.a l.b (l.invariant.3 s).0 (l.invariant.3 s).1 l.links al _ c.min-k.ensures _ _ c.skip-a.ensures c.skip-b.ensures in (
      omega (arith, c.min-k.ensures),
      omega (arith, l.invariant.1, k, c.min-k.ensures),
      l.invariant.2,
      on,
      λ b s.
          let e = eight_on _ _ _ _ _ _ s l.k k l.a l.b (l.invariant.3 s).0 (l.invariant.3 s).1 l.links al c.min-k.result c.min-k.ensures c.skip-a.result c.skip-b.result c.skip-a.ensures c.skip-b.ensures in
          rw e (taking_alike _ _ _ l.links 8 l.k l.found (l.invariant.4 b s) (eight_alike _ _ _ _ _ _ s l.k k l.a l.b (l.invariant.3 s).0 (l.invariant.3 s).1 l.links al)),
    )

pub loop-k-preserved : goal.loop-k-preserved
loop-k-preserved c =
    let l = c.loop-k in
    let p = c.take_pair in
    let m = c.match-take_pair in
    let small : l.k < 65535 = omega (arith, c.loop-k-test.true, c.min-width.ensures) in
    let on : SidesRead (rows_of c.args.table.now) c.solve.r c.args.lows.now c.put_sides-pairs.new.left c.put_sides-pairs.new.right c.min-width.result
    → Stands c.args.lows.now c.put_sides-pairs.new.left (l.k + 1) c.next-a.result × Stands c.args.lows.now c.put_sides-pairs.new.right (l.k + 1) c.next-b.result =
    λ s. (c.next-a.ensures.stands l.k small (l.invariant.3 s).0, c.next-b.ensures.stands l.k small (l.invariant.3 s).1) in
    let more : (got : ℕ) → number_of p.result ≡ got → got ≢ 2 → l.found + got ≡ m.found
    → Holding (rows_of c.args.table.now) c.solve.links
    → SidesRead (rows_of c.args.table.now) c.solve.r c.args.lows.now c.put_sides-pairs.new.left c.put_sides-pairs.new.right c.min-width.result
    → Taking (left_side (rows_of c.args.table.now) (row_at (rows_of c.args.table.now) c.solve.r)) (right_side (rows_of c.args.table.now) (row_at (rows_of c.args.table.now) c.solve.r)) (roots_of c.solve.links) p.new.links (l.k + 1) m.found =
    λ got e n f b s.
    taking_to _ _ _ l.links l.k l.found (l.invariant.4 b s) _ _ (pair-taken c.before.before.before.before.before.before b s) _ (omega (arith, e, f)) p.auto.links (λ z. n (sym e ∙ z)) in
    elim m.branch [
      | in-Nothing w ↦
          let n : number_of p.result ≡ 0 = ap number_of w.in-Nothing.is in
          (omega (arith, c.loop-k-test.true), omega (arith, l.invariant.1, w.found-is), p.auto.links ∙ l.invariant.2, on, more 0 n (λ z. omega (arith, z)) (omega (arith, w.found-is)))
      | in-Tie w ↦
          let n : number_of p.result ≡ 1 = ap number_of w.in-Tie.is in
          (omega (arith, c.loop-k-test.true), omega (arith, l.invariant.1, w.found-is), p.auto.links ∙ l.invariant.2, on, more 1 n (λ z. omega (arith, z)) (omega (arith, w.found-is)))
    ]

pub solve-smaller : goal.solve-smaller
solve-smaller c = omega (arith, c.solve-test.true, next_forth _ _ _ _ c.next_equation-r-in-solve.ensures)

pub solve-preserved : goal.solve-preserved
solve-preserved c =
    let o = c.solve in
    let l = c.loop-k in
    let e = c.put_sides-pairs in
    let n = c.next_equation-r-in-solve in
    let w : l.k ≡ c.min-width.result = omega (arith, l.invariant.0, c.loop-k-test.false) in
    let t = (rows_of c.args.table.now) in (
      omega (arith, o.invariant.0, l.invariant.1, l.invariant.0, c.min-width.ensures, next_forth _ _ _ _ n.ensures),
      omega (arith, o.invariant.0, l.invariant.1, l.invariant.0, c.min-width.ensures, c.solve-test.true, c.min-rows.ensures),
      e.auto.left ∙ o.invariant.2,
      e.auto.right ∙ o.invariant.3,
      l.invariant.2 ∙ o.invariant.4,
      λ g.
          let b = o.invariant.5 g in
          let s = sides c.before.before.before.before.before.before g in
          between_next _ _ _ g.within _ _ _ (o.r + 1) _
          (between_more _ _ _ g.within _ _ _ _ b (row_below c.before.before.before.before.before.before) _ _ _ _ _ (l.invariant.4 b.held s) (ap (λ (n : ℕ). pairs_from (left_side t (row_at t o.r)) (right_side t (row_at t o.r)) 0 n) w ∙ s.pairs))
          (next_passed _ (o.r + 1) _ _ _ (omega (arith, row_below c.before.before.before.before.before.before)) (all-rows _ _ _ g.prepared.numbered g.within c.min-rows.ensures) n.ensures),
      λ g.
          standing_next _ _ _ _ _ _ _ (o.r + 1) (standing_on _ _ _ _ _ _ _ _ (o.invariant.6 g) _ _ _ (written c.before.before.before.before.before.before g) (row_below c.before.before.before.before.before.before)) _
          (next_passed _ (o.r + 1) _ _ _ (omega (arith, row_below c.before.before.before.before.before.before)) (all-rows _ _ _ g.numbered g.within c.min-rows.ensures) n.ensures),
    )

pub returns-after-solve : goal.returns-after-solve
returns-after-solve c =
    record {
      classes = λ p l r f w e.
          let g : Given c.args.table.now c.args.widths.now c.args.variables.now c.args.lows.now c.args.from c.args.to c.args.left.now c.args.right.now c.args.links.now = record { prepared = p; left_room = l; right_room = r; forth = f; within = w; held = e } in
          between_done _ _ _ w _ _ _ _ (c.solve.invariant.5 g) (omega (arith, c.solve-test.false, all-rows _ _ _ p.numbered w c.min-rows.ensures))
          c.solve.invariant.1;
      forms = λ p l r f w.
          let g : Room c.args.table.now c.args.widths.now c.args.variables.now c.args.from c.args.to c.args.left.now c.args.right.now = record { numbered = p; left_room = l; right_room = r; forth = f; within = w } in
          standing_end _ _ _ _ _ _ _ _ (c.solve.invariant.6 g) (omega (arith, c.solve-test.false, all-rows _ _ _ p w c.min-rows.ensures));
    }

pub returns-in-Conflict : goal.returns-in-Conflict
returns-in-Conflict c =
    record {
      classes = λ p l r f w e.
          let g : Given c.args.table.now c.args.widths.now c.args.variables.now c.args.lows.now c.args.from c.args.to c.args.left.now c.args.right.now c.args.links.now = record { prepared = p; left_room = l; right_room = r; forth = f; within = w; held = e } in
          let b = c.solve.invariant.5 g in
          let s = sides c.before.before.before.before.before.before.before.before.before.before.before.before g in
          let q = c.loop-k in
          between_conflict _ _ _ w _ _ _ _ b (row_below c.before.before.before.before.before.before.before.before.before.before.before.before)
          (ap (λ (v : List Pair). rep (run (roots_of c.solve.links) v) 1) (sym s.pairs)
          ∙ taking_conflict _ _ _ q.links q.k q.found (q.invariant.4 b.held s) _ _ (pair-taken c.before.before.before.before b.held s) (ap number_of c.in-Conflict.is) _ c.loop-k-test.true) _
          c.solve.invariant.1;
      forms = λ p l r f w.
          let g : Room c.args.table.now c.args.widths.now c.args.variables.now c.args.from c.args.to c.args.left.now c.args.right.now = record { numbered = p; left_room = l; right_room = r; forth = f; within = w } in
          standing_conflict _ _ _ _ _ _ _ _ (standing_more _ _ _ _ _ _ _ _ (c.solve.invariant.6 g) _ _ _ (written c.before.before.before.before.before.before.before.before.before.before.before.before g) (row_below c.before.before.before.before.before.before.before.before.before.before.before.before));
    }
