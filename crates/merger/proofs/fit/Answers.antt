-- `fit` meets its contract: each way has its law in proofs/Stops.antt. Assumes nothing.
use mathlib.Core.Path.{sym, ◌∙◌}
use borrow.Author.Tests.{eqb-true}
use Rattle.merger.proofs.Stops.{odd_stops, sent_stops, received_tells}
use Rattle.merger.proofs.fit.Goals as goal
use Rattle.merger.proofs.fit.Goals.{then-n-eq0, else-n-eq0}

pub returns-then-whole : goal.returns-then-whole
returns-then-whole c =
    elim c.if-n-eq0.branch [
      | then-n-eq0 w ↦ c.whole-then-whole.ensures ∙ received_tells _ _ _ c.requires.some w.if-n-eq0.true (sym w.whole.ensures ∙ sym w.value-is ∙ c.if-whole.true)
      | else-n-eq0 w ↦ absurd (w.if-n-eq0.false (eqb-true _ _ (sym w.value-is ∙ c.if-whole.true)))
    ]

pub returns-else-whole : goal.returns-else-whole
returns-else-whole c =
    elim c.if-n-eq0.branch [
      | then-n-eq0 w ↦ c.if-whole.false ∙ sent_stops _ _ _ c.requires.some w.if-n-eq0.true (sym w.whole.ensures ∙ sym w.value-is ∙ c.if-whole.false)
      | else-n-eq0 w ↦ c.if-whole.false ∙ odd_stops _ _ _ c.requires.some w.if-n-eq0.false
    ]
