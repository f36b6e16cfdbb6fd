-- `row_at` meets its contract: a row's four columns stand side by side. Assumes nothing.
use Rattle.terms.proofs.Rows.{row_columns, row_past}
use Rattle.rows.proofs.row_at.Goals as goal

pub returns-then-table-r : goal.returns-then-table-r
returns-then-table-r c = row_past c.args.table.now c.args.r c.if-table-r.true

pub returns : goal.returns
returns c =
    row_columns c.args.table.now c.args.r c.if-table-r.false
