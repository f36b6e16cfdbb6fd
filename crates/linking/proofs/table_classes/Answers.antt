-- `table_classes` meets its contract: an accepted table has at most 2048 numbers. Assumes nothing.
use Rattle.terms.proofs.AcceptedTable.{accepted_table}
use Rattle.terms.proofs.Rows.{rows_length}
use native.Mathlib.Omega.{arith}
use Rattle.linking.proofs.table_classes.Goals as goal

pub returns-else-table-le128 : goal.returns-else-table-le128
returns-else-table-le128 c =
    λ placed.
    c.classes_in-else-table-le128.ensures (omega (arith, (accepted_table _ placed.numbered.accepted).few, (accepted_table _ placed.numbered.accepted).whole, rows_length c.args.table.now)) placed
