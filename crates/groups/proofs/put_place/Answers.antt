-- `put_place` meets its contract. Assumes nothing.
use native.Mathlib.Omega.{arith}
use Rattle.groups.specs.inner.Counts.{linked}
use Rattle.groups.proofs.Groups.{link_read, covers_fixed, covers_own, covers_more, added_few}
use Rattle.groups.proofs.Counting.{place_low, place_own, place_lower, place_none, place_more}
use Rattle.groups.proofs.put_place.Goals as goal
use Rattle.groups.proofs.put_place.Goals.{then-r-lt2-via-then-r-lt2, then-r-lt2-via-else-r-lt2+then-i-r}

pub returns-then-r-lt2 : goal.returns-then-r-lt2
returns-then-r-lt2 c =
    let a = c.args in
    let l = c.load-r in
    let e = link_read a.links.now l.result a.i _ c.from.ensures l.ensures in
    elim c.then-r-lt2.branch [
      | then-r-lt2-via-then-r-lt2 w ↦ record {
        upper_bound = (omega arith, covers_fixed a.links.now a.i _ _ l.result e w.if-r-lt2.true);
        rows = place_none (linked a.links.now) a.i _ _ _ (place_low a.links.now l.result a.i e w.if-r-lt2.true);
      }
      | then-r-lt2-via-else-r-lt2+then-i-r w ↦ record {
        upper_bound = (omega arith, covers_own a.links.now a.i _ _ l.result e w.if-i-r.true);
        rows = place_none (linked a.links.now) a.i _ _ _ (place_own a.links.now l.result a.i e w.if-i-r.true);
      }
    ]

pub returns : goal.returns
returns c =
    let a = c.args in
    let g = c.group_of in
    let n = c.add_group in
    let e = link_read a.links.now c.load-r.result a.i _ c.from.ensures c.load-r.ensures in
    record {
      upper_bound = (
        omega (arith, added_few _ _ _ _ _ _ _ _ _ n.ensures),
        covers_more a.links.now a.i a.plan.now a.count c.load-r.result e _ _ _ _ _ _ _ c.if-r-lt2.false g.ensures.tests n.ensures,
      );
      rows = place_more (linked a.links.now) a.i a.plan.now a.from a.count c.load-r.result _ _ _ _ _ _ e
          (place_lower a.links.now c.load-r.result a.i e c.if-r-lt2.false c.if-i-r.false) g.ensures n.ensures;
    }
