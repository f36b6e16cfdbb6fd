-- `goes-on` meets its contract. Assumes nothing.
use mathlib.Core.Path.{sym, ◌∙◌}
use borrow.Author.Tests.{eqb-true, eqb-false, lt-leb}
use Rattle.laws.proofs.Bools.{not_both}
use Rattle.borders.proofs.Steps.{goes_begin, goes_fixed, goes_low, goes_after, goes_tied}
use Rattle.borders.proofs.goes_on.Goals as goal
use Rattle.borders.proofs.goes_on.Goals.{then-a-ge2, else-a-ge2}

pub returns-then-load-ne0 : goal.returns-then-load-ne0
returns-then-load-ne0 c = goes_begin _ _ _ _ _ _ _ c.from-at.ensures c.load.ensures c.if-load-ne0.true

pub returns-then-b-lt2 : goal.returns-then-b-lt2
returns-then-b-lt2 c = goes_fixed _ _ _ _ _ _ _ c.from-at.ensures c.load.ensures c.if-load-ne0.false _ _ c.load-a.ensures c.load-b.ensures c.if-b-lt2.true

pub returns-then-load-eq0 : goal.returns-then-load-eq0
returns-then-load-eq0 c =
    elim c.if-a-ge2.branch [
      | then-a-ge2 w ↦
          goes_tied _ _ _ _ _ _ _ c.from-at.ensures c.load.ensures c.if-load-ne0.false _ _ c.load-a.ensures c.load-b.ensures c.if-b-lt2.false w.if-a-ge2.true
          _ _ w.from.ensures w.load-then-a-ge2.ensures (eqb-true _ _ (sym w.value-is ∙ c.if-load-eq0.true)) _ _ c.from-then-load-eq0.ensures c.load-then-load-eq0.ensures
      | else-a-ge2 w ↦ absurd (not_both c.if-load-eq0.true (w.value-is ∙ lt-leb 2 _ w.if-a-ge2.false))
    ]

pub returns-else-load-eq0 : goal.returns-else-load-eq0
returns-else-load-eq0 c =
    elim c.if-a-ge2.branch [
      | then-a-ge2 w ↦
          c.if-load-eq0.false
          ∙ goes_after _ _ _ _ _ _ _ c.from-at.ensures c.load.ensures c.if-load-ne0.false _ _ c.load-a.ensures c.load-b.ensures c.if-b-lt2.false w.if-a-ge2.true
          _ _ w.from.ensures w.load-then-a-ge2.ensures (eqb-false _ _ (sym w.value-is ∙ c.if-load-eq0.false))
      | else-a-ge2 w ↦
          c.if-load-eq0.false
          ∙ goes_low _ _ _ _ _ _ _ c.from-at.ensures c.load.ensures c.if-load-ne0.false _ _ c.load-a.ensures c.load-b.ensures c.if-b-lt2.false w.if-a-ge2.false
    ]
