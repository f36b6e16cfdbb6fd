-- `mark_begins` meets its contract: the invariant is `Marking`, of proofs/Marking.antt. Assumes nothing.
use native.Mathlib.Omega.{arith}
use Prim.Native.Nat.{◌<◌}
use mathlib.Core.Logic.{inl, inr, ⊎_elim}
use lib.ListN.{length}
use Rattle.laws.proofs.Numbers.{lt_or_le}
use Rattle.terms.specs.Table.{rows_of}
use Rattle.terms.proofs.Rows.{rows_length}
use Rattle.borders.proofs.Marking.{marking_first, marking_more, marking_done}
use Rattle.borders.proofs.mark_begins.Goals as goal

pub loop-r-init : goal.loop-r-init
loop-r-init c = (omega arith, marking_first _ _)

pub loop-r-preserved : goal.loop-r-preserved
loop-r-preserved c =
    let l : c.loop-r.r < length (rows_of c.args.table.now) = omega (arith, rows_length c.args.table.now, c.loop-r-test.true, c.min-r-end.ensures) in
    (omega (arith, c.loop-r-test.true, c.min-r-end.ensures), marking_more _ _ _ _ _ c.loop-r.invariant.1 l _ _ _ c.row_at.ensures c.row_bits.ensures.0 c.row_bits.ensures.1 c.store.ensures c.store.auto.buffer)

pub returns : goal.returns
returns c =
    marking_done _ _ _ _ _ c.loop-r.invariant.1 c.loop-r.invariant.0
    (⊎_elim (λ l. inr (omega (arith, rows_length c.args.table.now, l, c.loop-r-test.false, c.min-r-end.ensures))) (λ l. inl l) (lt_or_le c.loop-r.r 512))
    _ _ c.store-2.ensures c.narrow.ensures
