-- `open_at` meets its contract: each way in which it ends has its law in proofs/Ends.antt. Assumes nothing.
use mathlib.Core.Path.{sym, ◌∙◌, ap}
use native.Mathlib.Omega.{arith}
use Prim.Native.Nat.{ℕ, ◌≤◌, ◌%◌}
use Rattle.terms.specs.Calls.{completed}
use Rattle.terms.specs.Table.{rows_of, next_equation}
use Rattle.terms.proofs.AcceptedTable.{table_bits}
use Rattle.terms.proofs.Rows.{rows_length}
use Rattle.stepper.proofs.Ends.{goes, open_refused, open_done}
use Rattle.stepper.proofs.open_at.Goals as goal

pub returns-in-Err : goal.returns-in-Err
returns-in-Err c =
    let B = c.begin.ensures (omega arith) (omega arith) in
    let it = B.refused _ c.in-Err.is in
    let ends = open_refused c.args.table.now c.args.job.next c.args.job.ties c.args.work.now it.0 _ (c.record.ensures ∙ it.1) in
    record { «record» = ends.0; next = ends.1.0; ties = ends.1.1.0; work = ends.1.1.1 }

pub returns : goal.returns
returns c =
    let B = c.begin.ensures (omega arith) (omega arith) in
    let table = c.args.table.now in
    let G = goes table _ (B.goes c.in_default.is) in
    let placed = B.placed c.in_default.is in
    let wide = c.from-bits.ensures ∙ placed.bits_are in
    let few : c.from-bits.result ≤ 4096 = omega (arith, wide, table_bits table G.accepted) in
    let ends = open_done table c.args.job.next c.args.job.ties c.args.work.now G _ _ wide
    (c.complete.ensures ∙ ap (completed 0) c.short.ensures) _
    (c.short-next.ensures ∙ ap (λ (n : ℕ). n % 4294967296) (c.next_equation.ensures ∙ ap (next_equation (rows_of table) 0) (sym (rows_length table)))) _
    (c.open_area.ensures few (omega (arith, few, G.enough))) in
    record { «record» = ends.0; next = ends.1.0; ties = ends.1.1.0; work = ends.1.1.1 }
