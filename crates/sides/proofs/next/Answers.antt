-- `next` meets its contract: within a piece, and at its end. Assumes nothing.
use mathlib.Core.Path.{refl, ◌∙◌}
use Rattle.sides.proofs.Reading.{next_begun, next_within, next_on}
use Rattle.sides.proofs.next.Goals as goal

pub returns-then-at-eq0 : goal.returns-then-at-eq0
returns-then-at-eq0 c =
    record { is = (next_on _ _ _ _ (c.begin.ensures ∙ next_begun _ _ _ c.if-at-eq0.true _ refl)).0; stands = (next_on _ _ _ _ (c.begin.ensures ∙ next_begun _ _ _ c.if-at-eq0.true _ refl)).1 }

pub returns : goal.returns
returns c =
    record { is = (next_on _ _ _ _ (next_within _ _ _ c.if-at-eq0.false _ refl)).0; stands = (next_on _ _ _ _ (next_within _ _ _ c.if-at-eq0.false _ refl)).1 }
