-- `classes_with` meets its contract: the equations are taken from a copy of the table, of proofs/FromCopy.antt. Assumes nothing.
use mathlib.Core.Path.{◌≡◌, sym, ap, ◌∙◌}
use mathlib.Core.List.{List}
use Prim.Native.Nat.{ℕ}
use native.Mathlib.Omega.{arith}
use lib.ListN.{take}
use Rattle.terms.specs.Table.{rows_of}
use Rattle.terms.proofs.AcceptedTable.{table_totals}
use Rattle.terms.proofs.Rows.{rows_length}
use Rattle.laws.specs.Lists.{count_up}
use Rattle.copies.proofs.Copying.{copy-count, copy-placed}
use Rattle.sides.proofs.Prepared.{prepared_of}
use Rattle.linking.specs.inner.Classes.{unlinked}
use Rattle.linking.proofs.FromCopy.{copy-held, copy_taken}
use Rattle.linking.proofs.classes_with.Goals as goal

pub returns : goal.returns
returns c =
    λ room placed form len.
    let table = c.args.table.now in
    let accepted = placed.numbered.accepted in
    let made = c.copy-len.ensures.rows accepted room in
    let short : List ℕ = take c.copy-len.result c.copy-len.new.short in
    let alone : c.unlink.new.links ≡ unlinked (rows_of table) = c.unlink.ensures (omega (arith, len, (table_totals table accepted).1)) ∙ ap (count_up 0) len in
    let all = sym (rows_length table) in
    let taken = c.take_equations-taken.ensures.classes (prepared_of short _ _ _ (copy-placed table short accepted made _ _ placed) (omega (arith, c.min-lows.ensures))) form (omega arith) (omega arith) (omega (arith, all, copy-count table short accepted made)) (copy-held table short accepted made _ alone) in
    c.settle_ties.ensures accepted (copy_taken table short accepted made _ alone _ all _ _ _ taken)
