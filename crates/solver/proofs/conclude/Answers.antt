-- `conclude` meets its contract: each outcome has its law in proofs/Concluding.antt. Assumes nothing.
use mathlib.Core.Path.{refl, ap, ◌∙◌}
use Prim.Native.Nat.{ℕ, ◌%◌}
use native.Mathlib.Omega.{arith}
use Rattle.terms.specs.Calls.{completed}
use Rattle.terms.proofs.Rows.{rows_length}
use Rattle.solver.proofs.Concluding.{conclude_never, conclude_always, conclude_solved, same_record}
use Rattle.solver.proofs.conclude.Goals as goal

pub returns-then-row-table : goal.returns-then-row-table
returns-then-row-table c =
    λ accepted bits other F.
    let s = c.args in
    conclude_never s.table.now other s.links.now s.answer.now s.row s.ties F
    (omega (arith, c.if-row-table.true, rows_length s.table.now)) _ (rw (c.complete.ensures, c.short.ensures, c.short-then-row-table.ensures) refl)

pub returns-then-ties-eq0 : goal.returns-then-ties-eq0
returns-then-ties-eq0 c =
    λ accepted bits other F.
    let s = c.args in
    conclude_always s.table.now other s.links.now s.answer.now s.row s.ties F
    (omega (arith, c.if-row-table.false, rows_length s.table.now)) c.if-ties-eq0.true s.bits bits _ (c.complete-then-ties-eq0.ensures ∙ ap (completed 0) c.short-then-ties-eq0.ensures)

pub returns : goal.returns
returns c =
    λ accepted bits other F.
    let s = c.args in
    conclude_solved s.table.now other s.links.now s.answer.now s.row s.ties F
    (omega (arith, c.if-row-table.false, rows_length s.table.now)) accepted c.if-ties-eq0.false s.bits bits _ _ _ c.put_rows-counts.ensures _
    (same_record c.short-2.ensures c.short-3.ensures (c.short-4.ensures ∙ ap (λ (x : ℕ). x % 4294967296) c.saturating_sub.ensures) c.short-5.ensures)
