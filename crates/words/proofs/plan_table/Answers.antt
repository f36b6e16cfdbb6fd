-- `plan_table` meets its contract: the plan that no window meets where two different fixed bits met, else the rows of the links. Assumes nothing.
use Prim.Native.Nat.{ℕ}
use native.Mathlib.Omega.{arith}
use lib.ListN.{length-replicate}
use Rattle.words.proofs.Satisfying.{planned_never, planned_rows}
use Rattle.words.proofs.plan_table.Goals as goal

pub returns-then-taken-table : goal.returns-then-taken-table
returns-then-taken-table c =
    λ placed linked k sixteen room.
    planned_never _ _ _ _ 0 c.args.plan.now _ placed.numbered.accepted (c.table_classes-taken.ensures placed (omega (arith, length-replicate {A = ℕ} 4096 0)) linked) sixteen room c.if-taken-table.true c.put_never.ensures

pub returns : goal.returns
returns c =
    λ placed linked k sixteen room.
    planned_rows _ _ _ _ _ c.args.plan.now _ placed.numbered.accepted (c.table_classes-taken.ensures placed (omega (arith, length-replicate {A = ℕ} 4096 0)) linked) sixteen room c.if-taken-table.false k c.put_rows.ensures
