-- `read_lines` meets its contract: the invariant is `Reading`, of proofs/Reading.antt. Assumes nothing.
use Rattle.reader.proofs.Reading.{Reading}
use Rattle.reader.proofs.read_lines.Given as goal

abbrev pub invariant-loop-k : goal.invariant-loop-k
invariant-loop-k l = Reading l.text l.order l.initial.cursor.at l.initial.table l.table l.cursor.at l.k
