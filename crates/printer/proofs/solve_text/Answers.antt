-- `solve_text` meets its contract: each way in which it ends has its law in sheets/proofs/Solving.antt. Assumes nothing.
use mathlib.Core.Path.{◌≡◌, sym, ◌∙◌, ap, ap₂}
use mathlib.Core.List.{List}
use Prim.Native.Nat.{ℕ, ◌*◌, ◌≤◌}
use native.Mathlib.Omega.{arith}
use lib.ListN.{length, take, replicate}
use lib.Seq.{length-take-le}
use Rattle.terms.specs.declared.Record.{Record}
use Rattle.sheets.specs.Call.{sheet_record}
use Rattle.sheets.proofs.TableRead.{pieces_few, table-read}
use Rattle.sheets.proofs.Solving.{stop_sheet, solved}
use Rattle.printer.proofs.solve_text.Goals as goal
use Rattle.printer.proofs.solve_text.Lts as lts
use Rattle.printer.proofs.solve_text.Tie as tie
use Rattle.printer.proofs.solve_text.Reads as reads

room : 2048 ≤ length {A = ℕ} (replicate 2048 0)
room = omega arith

-- an accepted sheet
accepted : (d : lts.Else1 tie.the-claims reads.Pre reads.Post tie.handed_clauses) → (sheet_record d.args.text.now 2048).outcome ≡ 0
accepted d = omega (arith, ap (λ (r : Record). r.outcome) d.read_sheet-read.ensures.record, d.if-read-ne0.false)

-- the rows read fit into the table
rows_fit : (d : lts.Else1 tie.the-claims reads.Pre reads.Post tie.handed_clauses)
    → d.read_sheet-read.result.pieces * 4 ≤ length d.read_sheet-read.new.table
rows_fit d =
    let few = pieces_few d.args.text.now (replicate 2048 0) room (accepted d) in
    omega (arith, few, ap (λ (r : Record). r.pieces) d.read_sheet-read.ensures.record, d.read_sheet-read.auto.table)

pub returns-then-read-ne0 : goal.returns-then-read-ne0
returns-then-read-ne0 c =
    let a = c.args in
    record { «record» = (stop_sheet a.text.now a.answer.now _ c.read_sheet-read.ensures.record (λ z. omega (arith, z, c.if-read-ne0.true))).0; answer = (stop_sheet a.text.now a.answer.now _ c.read_sheet-read.ensures.record (λ z. omega (arith, z, c.if-read-ne0.true))).1 }

pub slice_bounds-table-end : goal.slice_bounds-table-end
slice_bounds-table-end c = rows_fit c.before.before

pub slice_bounds-solve-end : goal.slice_bounds-solve-end
slice_bounds-solve-end c = sym (length-take-le _ _ (rows_fit c.before.before.before))

pub returns : goal.returns
returns c =
    let a = c.args in
    let table =
    ap₂ (λ (r : Record) (l : List ℕ). take (r.pieces * 4) l) c.read_sheet-read.ensures.record c.read_sheet-read.ensures.table
    ∙ table-read a.text.now (replicate 2048 0) room (accepted c.before.before.before.before.before.before.before.before.before) in
    record { «record» = (solved a.text.now (accepted c.before.before.before.before.before.before.before.before.before) a.answer.now _ _ _ table c.solve.ensures.record c.solve.ensures.answer).0; answer = (solved a.text.now (accepted c.before.before.before.before.before.before.before.before.before) a.answer.now _ _ _ table c.solve.ensures.record c.solve.ensures.answer).1 }
