-- `read_form` meets its contract: the invariant is `Reading`, of proofs/Reading.antt. Assumes nothing.
use mathlib.Core.Path.{refl, sym, ◌∙◌}
use Rattle.shapes.proofs.Reading.{reading_first, reading_more, reading_bad, reading_done, reading_part}
use Rattle.shapes.proofs.read_form.Goals as goal

pub loop-i-init : goal.loop-i-init
loop-i-init c =
    let d = c.default.ensures in
    reading_first _ _ _ _ d.0 d.1.0 refl d.1.1.1.0 d.1.1.1.1.0 d.1.1.1.1.1.0 d.1.1.1.1.1.1

pub returns-then-not-row_fine : goal.returns-then-not-row_fine
returns-then-not-row_fine c = reading_bad _ _ _ _ _ _ _ c.loop-i.invariant c.loop-i-test.true _ c.row_at-r.ensures _ c.from.ensures _ c.load.ensures (sym c.row_fine.ensures ∙ c.if-not-row_fine.true)

pub loop-i-preserved : goal.loop-i-preserved
loop-i-preserved c = reading_more _ _ _ _ _ _ _ c.loop-i.invariant c.loop-i-test.true _ c.row_at-r.ensures _ c.from.ensures _ c.load.ensures (sym c.row_fine.ensures ∙ c.if-not-row_fine.false) _ _ _ _ c.from-place.ensures c.store.ensures c.store-in-loop-i.ensures c.advance-p.ensures

pub returns-then-answer-ne0 : goal.returns-then-answer-ne0
returns-then-answer-ne0 c = reading_part _ _ _ _ c.if-answer-ne0.true

pub returns : goal.returns
returns c = reading_done _ _ _ _ _ _ _ c.loop-i.invariant c.loop-i-test.false c.if-answer-ne0.false
