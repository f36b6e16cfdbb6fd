-- `leaf_piece` meets its contract. Assumes nothing.
use borrow.Author.Tests.{eq-eqb, ne_eqb}
use Rattle.appender.specs.inner.Cuts.{leaf_piece}
use Rattle.appender.proofs.leaf_piece.Goals as goal

pub returns-then-r-eq-VARIABLE : goal.returns-then-r-eq-VARIABLE
unfolding leaf_piece
returns-then-r-eq-VARIABLE c = rw (eq-eqb _ _ c.if-r-eq-VARIABLE.true)

pub returns : goal.returns
unfolding leaf_piece
returns c = rw (ne_eqb _ _ c.if-r-eq-VARIABLE.false, c.saturating_sub.ensures, c.default.ensures.1.0, c.default.ensures.1.1.1)
