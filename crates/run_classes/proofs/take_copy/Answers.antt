-- `take_copy` meets its contract: the equations are taken from a copy of the table, of FromCopy.antt of crate linking. Assumes nothing.
use mathlib.Core.Path.{sym, ◌∙◌}
use mathlib.Core.List.{List}
use Prim.Native.Nat.{ℕ, ◌/◌, ◌≤◌}
use native.Mathlib.Omega.{arith}
use lib.ListN.{length, take, replicate, length-replicate}
use Rattle.terms.specs.Table.{rows_of}
use Rattle.terms.proofs.AcceptedTable.{accepted_table}
use Rattle.terms.proofs.Rows.{rows_length}
use Rattle.copies.proofs.Copying.{copy-count, copy-placed}
use Rattle.sides.proofs.Prepared.{prepared_of}
use Rattle.linking.proofs.FromCopy.{copy-held, copy_taken}
use Rattle.run_classes.proofs.Both.{some_both}
use Rattle.run_equations.specs.declared.Taken.{Taken}
use Rattle.run_classes.specs.inner.Classes.{shut_at, TakesCopy}
use Rattle.run_classes.proofs.take_copy.Goals as goal

pub returns : goal.returns
returns c =
    let t = c.take_equations.ensures in
    let a = c.args in
    let n = c.take_equations.new in
    let taken : Taken → Type 0 =
    λ taken. TakesCopy a.table.now a.widths.now a.places.now (length a.form.now) a.links.now (length a.last.now) (length a.first.now) n.links n.last n.first taken.row taken.ties in
    some_both _ _ _ taken t.equations t.runs λ taken equations runs placed form len r₁ r₂.
    let table = c.args.table.now in
    let accepted = placed.numbered.accepted in
    let all = sym (rows_length table) in
    let room : length table ≤ length (replicate {A = ℕ} 2048 0) = omega (arith, (accepted_table table accepted).few, (accepted_table table accepted).whole, all, length-replicate {A = ℕ} 2048 0) in
    let made = c.copy-len.ensures.rows accepted room in
    let short : List ℕ = take c.copy-len.result c.copy-len.new.short in
    let begun = c.begin.ensures table _ placed len r₁ r₂ in
    let ready = prepared_of short _ _ _ (copy-placed table short accepted made _ _ placed) c.min-lows.ensures in
    let most : length table / 4 ≤ length (rows_of short) = omega (arith, all, copy-count table short accepted made) in
    let held = copy-held table short accepted made _ begun.alone in
    record {
      taken = copy_taken table short accepted made _ begun.alone _ all _ _ _ (equations (omega arith) (shut_at (rows_of table)) begun.state ready form (omega arith) (omega arith) most held);
      state = λ e. runs (omega arith) (shut_at (rows_of table)) begun.state ready form (omega arith) most held (e ∙ sym all);
    }
