-- `put_lines` meets its contract: the first lines are written (`LinesPut`). Assumes nothing.
use Rattle.pages.proofs.Making.{LinesPut}
use Rattle.pages.proofs.put_lines.Given as goal

abbrev pub invariant-loop-line : goal.invariant-loop-line
invariant-loop-line l = LinesPut l.found l.answer l.number l.initial.out l.out l.at l.line
