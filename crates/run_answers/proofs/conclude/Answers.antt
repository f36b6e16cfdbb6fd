-- `conclude` meets its contract: each outcome has its law in Concluding.antt of crate solver. Assumes nothing.
use mathlib.Core.Path.{refl, ap, ◌∙◌}
use Prim.Native.Nat.{ℕ, suc, ◌%◌, ◌≤◌}
use native.Mathlib.Omega.{arith}
use lib.ListN.{length}
use Rattle.terms.specs.Calls.{completed}
use Rattle.terms.specs.Table.{rows_of}
use Rattle.terms.proofs.Rows.{rows_length}
use Rattle.solver.proofs.Concluding.{conclude_never, conclude_always, conclude_solved, same_record}
use Rattle.run_answers.proofs.Concluding.{taken_never, taken_none, taken_swept, settled_rows}
use Rattle.run_answers.proofs.conclude.Goals as goal

pub returns-then-row-table : goal.returns-then-row-table
returns-then-row-table c =
    λ accepted bits T.
    let s = c.args in
    let l : suc s.row ≤ length (rows_of s.table.now) = omega (arith, c.if-row-table.true, rows_length s.table.now) in
    conclude_never s.table.now s.table.now s.links.now s.answer.now s.row s.ties (taken_never s.table.now s.links.now s.last.now s.first.now s.row s.ties accepted T l) l _
    (rw (c.complete.ensures, c.short.ensures, c.short-then-row-table.ensures) refl)

pub returns-then-ties-eq0 : goal.returns-then-ties-eq0
returns-then-ties-eq0 c =
    λ accepted bits T.
    let s = c.args in
    let l : length (rows_of s.table.now) ≤ s.row = omega (arith, c.if-row-table.false, rows_length s.table.now) in
    conclude_always s.table.now s.table.now s.links.now s.answer.now s.row s.ties (taken_none s.table.now s.links.now s.last.now s.first.now s.row s.ties accepted T l c.if-ties-eq0.true) l c.if-ties-eq0.true s.bits bits _
    (c.complete-then-ties-eq0.ensures ∙ ap (completed 0) c.short-then-ties-eq0.ensures)

pub returns : goal.returns
returns c =
    λ accepted bits T.
    let s = c.args in
    let l : length (rows_of s.table.now) ≤ s.row = omega (arith, c.if-row-table.false, rows_length s.table.now) in
    let swept = c.settle in
    let settled = settled_rows s.table.now s.links.now s.last.now s.first.now s.row s.ties accepted T l _ _ _ swept.ensures in
    conclude_solved s.table.now s.table.now swept.new.links s.answer.now s.row s.ties (taken_swept s.table.now s.links.now s.last.now s.first.now s.row s.ties accepted T l _ _ _ swept.ensures) l accepted c.if-ties-eq0.false s.bits bits _ _ _
    (c.put_rows-counts.ensures _ settled) _
    (same_record c.short-2.ensures c.short-3.ensures (c.short-4.ensures ∙ ap (λ (x : ℕ). x % 4294967296) c.saturating_sub.ensures) c.short-5.ensures)
