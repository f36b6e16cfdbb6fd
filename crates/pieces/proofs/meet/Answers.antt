-- `meet` meets its contract. Assumes nothing.
use Rattle.forms.specs.Form.{meets}
use borrow.Author.Tests.{lt-ltb, le-ltb, eq-eqb, ne_eqb}
use Rattle.pieces.proofs.meet.Goals as goal

pub returns-then-p-lt2 : goal.returns-then-p-lt2
unfolding meets
returns-then-p-lt2 c = rw (eq-eqb _ _ c.if-p-q.true, lt-ltb _ _ c.if-p-lt2.true)

pub returns-then-p-q-2 : goal.returns-then-p-q-2
unfolding meets
returns-then-p-q-2 c = rw (eq-eqb _ _ c.if-p-q.true, le-ltb _ _ c.if-p-lt2.false, eq-eqb _ _ c.if-p-q-2.true, c.from.ensures, c.from-then-p-q-2.ensures)

pub returns-else-p-q-2 : goal.returns-else-p-q-2
unfolding meets
returns-else-p-q-2 c = rw (eq-eqb _ _ c.if-p-q.true, le-ltb _ _ c.if-p-lt2.false, ne_eqb _ _ c.if-p-q-2.false)

pub returns-else-p-q : goal.returns-else-p-q
unfolding meets
returns-else-p-q c = rw (ne_eqb _ _ c.if-p-q.false)
