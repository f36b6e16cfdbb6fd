-- `not_term` meets its contract. Assumes nothing.
use Rattle.terms.specs.Faults.{not_term}
use borrow.Author.Tests.{lt-ltb, le-ltb, le-leb}
use Rattle.rules.proofs.not_term.Goals as goal

pub returns-then-r-x : goal.returns-then-r-x
unfolding not_term
returns-then-r-x c = rw (le-ltb _ _ c.if-r-x.true, le-leb _ _ c.if-r-x.true)

pub returns-else-r-x : goal.returns-else-r-x
unfolding not_term
returns-else-r-x c = rw (lt-ltb c.args.x c.args.r c.if-r-x.false, c.row_at.ensures)
