-- `put_rows` meets its contract: the lines of the first i rows are written (`RowsPut`). Assumes nothing.
use Rattle.writer.proofs.Lines.{RowsPut}
use Rattle.writer.proofs.put_rows.Given as goal

abbrev pub invariant-loop-i : goal.invariant-loop-i
invariant-loop-i l = RowsPut l.answer l.initial.out l.at l.out l.behind l.i
