-- `settle_ties` meets its contract: each way has its law in proofs/Settling.antt. Assumes nothing.
use native.Mathlib.Omega.{arith}
use Rattle.terms.proofs.Rows.{rows_length}
use Rattle.linking.proofs.Settling.{settle_never, settle_none}
use Rattle.linking.proofs.settle_ties.Goals as goal
use Rattle.linking.proofs.settle_ties.Goals.{else-table-row-via-then-table-row+else-ties-gt0, else-table-row-via-else-table-row}

pub returns-else-table-row : goal.returns-else-table-row
returns-else-table-row c =
    λ accepted E.
    elim c.else-table-row.branch [
      | else-table-row-via-then-table-row+else-ties-gt0 w ↦ settle_none c.args.table.now accepted c.args.links.now c.args.row c.args.ties E
          (omega (arith, w.if-table-row.true, rows_length c.args.table.now)) (omega (arith, w.if-ties-gt0.false))
      | else-table-row-via-else-table-row w ↦ settle_never c.args.table.now accepted c.args.links.now c.args.row c.args.ties E
          (omega (arith, w.if-table-row.false, rows_length c.args.table.now))
    ]
