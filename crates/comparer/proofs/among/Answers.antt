-- `among` meets its contract. Assumes nothing.
use mathlib.Core.Path.{◌∙◌, ap}
use mathlib.Core.Bool.{not}
use Rattle.comparer.proofs.Comparing.{first_none, second_none, both_some}
use Rattle.comparer.proofs.among.Goals as goal

pub returns-then-never : goal.returns-then-never
returns-then-never c = c.if-never.true ∙ first_none _ _ _ _ _ c.if-never.true

pub returns-then-not-none : goal.returns-then-not-none
returns-then-not-none c = c.included.ensures ∙ both_some _ _ _ _ _ c.if-never.false c.if-not-none.true

pub returns-else-not-none : goal.returns-else-not-none
returns-else-not-none c = ap not c.if-not-none.false ∙ second_none _ _ _ _ _ c.if-never.false c.if-not-none.false
