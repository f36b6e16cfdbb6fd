-- `shorten` meets its contract: the invariant is `Shortening`, of proofs/Shortening.antt. Assumes nothing.
use mathlib.Core.Path.{◌≡◌}
use Prim.Native.Nat.{◌<◌}
use native.Mathlib.Omega.{arith}
use lib.ListN.{length}
use Rattle.terms.specs.Table.{rows_of}
use Rattle.terms.proofs.Rows.{rows_length}
use Rattle.copies.proofs.Shortening.{shortening_first, shortening_more, shortening_done}
use Rattle.copies.proofs.shorten.Goals as goal

pub loop-r-init : goal.loop-r-init
loop-r-init c = shortening_first _ _

pub loop-r-preserved : goal.loop-r-preserved
loop-r-preserved c =
    let l : c.loop-r.r < length (rows_of c.args.table.now) = omega (arith, rows_length c.args.table.now, c.loop-r-test.true, c.min-rows.ensures) in
    shortening_more _ _ _ _ c.loop-r.invariant l (omega (arith, c.loop-r-test.true, c.min-rows.ensures)) _ _ _ _ _ c.row_at-row.ensures c.from.ensures c.row_at-named.ensures c.short_row.ensures c.store_row.ensures

pub returns : goal.returns
returns c =
    let whole : c.loop-r.r ≡ c.min-rows.result = omega (arith, c.loop-r-test.false, c.loop-r.auto.r-end) in
    record { few = omega (arith, c.min-rows.ensures); rows = rw whole at (shortening_done _ _ _ _ c.loop-r.invariant (omega (arith, whole, c.min-rows.ensures, rows_length c.args.table.now))) }
