-- `read_form` meets its contract: the invariant is `Reading`, of proofs/Reading.antt. Assumes nothing.
use Rattle.shapes.proofs.Reading.{Reading}
use Rattle.shapes.proofs.read_form.Given as goal

abbrev pub invariant-loop-i : goal.invariant-loop-i
invariant-loop-i l = Reading l.answer l.initial.widths l.initial.starts l.widths l.starts l.p l.i
