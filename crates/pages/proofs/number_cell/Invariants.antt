-- `number_cell` meets its contract: the last digits are written (`Filling`). Assumes nothing.
use Prim.Native.Nat.{◌-◌, ◌<◌}
use Rattle.pages.proofs.Cells.{Filling}
use Rattle.pages.proofs.number_cell.Given as goal

abbrev pub invariant-loop-at : goal.invariant-loop-at
invariant-loop-at l = (0 < l.at) × Filling l.n l.bytes (l.at - 1) l.rest
