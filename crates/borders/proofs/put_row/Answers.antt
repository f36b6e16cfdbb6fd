-- `put_row` meets its contract. Assumes nothing.
use borrow.Author.Tests.{eq-eqb, ne_eqb}
use Rattle.borders.specs.inner.Borders.{row_written}
use Rattle.borders.proofs.put_row.Goals as goal

pub returns-then-p-eq0 : goal.returns-then-p-eq0
unfolding row_written
returns-then-p-eq0 c = rw (eq-eqb _ _ c.if-p-eq0.true)

pub returns : goal.returns
unfolding row_written
returns c = rw (ne_eqb _ _ c.if-p-eq0.false) c.put_four.ensures
