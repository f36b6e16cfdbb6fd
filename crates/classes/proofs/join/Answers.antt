-- `join` meets its contract, for each of the three that a pair can be. Assumes nothing.
use mathlib.Core.Path.{sym, ◌∙◌}
use native.Mathlib.Omega.{arith}
use Rattle.classes.proofs.Roots.{found_rel, taken_is, taken_tie}
use Rattle.classes.proofs.Links.{link_same, link_conflict}
use Rattle.classes.proofs.join.Goals as goal

pub returns-then-a-b : goal.returns-then-a-b
returns-then-a-b c =
    let a = c.find-a in
    let b = c.find-b in
    λ low hs ht.
    let f = a.ensures low hs in
    let g = b.ensures f.low (omega (arith, ht, a.auto.links)) in
    taken_is _ _ _ _ _ low g.low (link_same _ a.new.links b.new.links _ _ a.result b.result (found_rel _ _ _ _ f) (found_rel _ _ _ _ g) c.if-a-b.true)

pub returns-then-top-eq1 : goal.returns-then-top-eq1
returns-then-top-eq1 c =
    let a = c.find-a in
    let b = c.find-b in
    λ low hs ht.
    let f = a.ensures low hs in
    let g = b.ensures f.low (omega (arith, ht, a.auto.links)) in
    taken_is _ _ _ _ _ low g.low (link_conflict _ a.new.links b.new.links _ _ a.result b.result (found_rel _ _ _ _ f) (found_rel _ _ _ _ g) c.if-a-b.false (sym c.max-top.ensures ∙ c.if-top-eq1.true))

pub returns : goal.returns
returns c =
    let a = c.find-a in
    let b = c.find-b in
    λ low hs ht.
    let f = a.ensures low hs in
    let g = b.ensures f.low (omega (arith, ht, a.auto.links)) in
    rw (c.store.ensures, c.from.ensures, c.min.ensures, c.max-top.ensures)
    (taken_tie _ a.new.links b.new.links _ _ a.result b.result low (found_rel _ _ _ _ f) (found_rel _ _ _ _ g) a.auto.links b.auto.links c.if-a-b.false (λ e. c.if-top-eq1.false (c.max-top.ensures ∙ e)))
