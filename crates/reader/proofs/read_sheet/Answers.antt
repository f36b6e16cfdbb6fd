-- `read_sheet` meets its contract: each way in which it ends has its law in proofs/Calls.antt. Assumes nothing.
use Rattle.reader.proofs.Calls.{told, no_room, all_read}
use Rattle.terms.specs.Calls.{completed}
use Rattle.laws.specs.Buffers.{overwrite}
use native.Mathlib.Omega.{arith}
use lib.ListN.{take, replicate}
use Prim.Native.Nat.{ℕ, ◌*◌}
use mathlib.Core.List.{List}
use mathlib.Core.Path.{refl, ◌∙◌, ap, ap₂}
use Rattle.reader.proofs.read_sheet.Goals as goal

pub returns-in-Err : goal.returns-in-Err
returns-in-Err c =
    let whole = told c.args.text.now c.args.table.now c.in-Err.error c.in-Err.ensures.found _ c.refused.ensures in
    record { «record» = whole.0; table = whole.1 }

pub returns-then-table-lt2048 : goal.returns-then-table-lt2048
returns-then-table-lt2048 c =
    let whole = no_room c.args.text.now c.args.table.now c.in-Ok.count c.in-Ok.ensures.found (omega (arith, c.if-table-lt2048.true)) _ c.record.ensures in
    record { «record» = whole.0; table = whole.1 }

pub returns : goal.returns
returns c =
    let whole = all_read c.args.text.now c.args.table.now c.in-Ok.count c.in-Ok.ensures.found c.if-table-lt2048.false (replicate 2048 0) refl _ _
    (c.complete.ensures ∙ ap (λ (n : ℕ). completed n 0) c.from-2.ensures)
    (c.copy.ensures ∙ ap₂ (λ (n : ℕ) (l : List ℕ). overwrite (take (n * 4) l) c.args.table.now) c.from.ensures c.in-Ok.ensures.rows) in
    record { «record» = whole.0; table = whole.1 }
