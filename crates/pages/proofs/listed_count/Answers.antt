-- `listed_count` meets its contract. Assumes nothing.
use borrow.Author.Tests.{eq-eqb, ne_eqb}
use Rattle.pages.specs.inner.Lines.{listed_count}
use Rattle.pages.proofs.listed_count.Goals as goal

pub returns-then-found-ne-SOLVED : goal.returns-then-found-ne-SOLVED
unfolding listed_count
returns-then-found-ne-SOLVED c = rw (ne_eqb _ _ c.if-found-ne-SOLVED.true)

pub returns : goal.returns
unfolding listed_count
returns c = rw (eq-eqb _ _ c.if-found-ne-SOLVED.false) c.min.ensures
