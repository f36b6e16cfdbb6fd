-- `short_row` meets its contract. Assumes nothing.
use mathlib.Core.Path.{refl}
use Rattle.copies.proofs.Shortening.{plain_outer, plain_inner, both_cuts}
use Rattle.copies.proofs.short_row.Goals as goal

pub returns-then-row-ne-EXTRACT : goal.returns-then-row-ne-EXTRACT
returns-then-row-ne-EXTRACT c = plain_outer _ _ c.if-row-ne-EXTRACT.true

pub returns-then-named-ne-EXTRACT : goal.returns-then-named-ne-EXTRACT
returns-then-named-ne-EXTRACT c = plain_inner _ _ c.if-row-ne-EXTRACT.false c.if-named-ne-EXTRACT.true

pub returns : goal.returns
returns c = both_cuts c.args.row c.args.named _ _ c.if-row-ne-EXTRACT.false c.if-named-ne-EXTRACT.false refl refl
