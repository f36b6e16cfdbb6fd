-- `prepare` meets its contract: there are as many links as sources, and as many words as variables. Assumes nothing.
use mathlib.Core.Path.{◌≡◌, ◌∙◌}
use Prim.Native.Nat.{ℕ, ◌+◌, ◌*◌, ◌≤◌}
use native.Mathlib.Omega.{arith}
use lib.ListN.{replicate, length-replicate}
use lib.Seq.{length-take-le}
use Rattle.terms.specs.Table.{rows_of, bits_of, count_kind}
use Rattle.terms.proofs.AcceptedTable.{table_totals}
use Rattle.windows.proofs.Sixteens.{sixteen_bits}
use Rattle.words.proofs.prepare.Goals as goal

pub returns : goal.returns
returns c =
    λ placed bits sixteen room.
    let t = c.args.table.now in
    let sixteen-each : bits_of (rows_of t) ≡ 16 * count_kind 0 (rows_of t) = sixteen_bits (rows_of t) sixteen in
    let few : count_kind 0 (rows_of t) ≤ 64 = (table_totals t placed.numbered.accepted).0 in
    c.plan_table.ensures placed
    (length-take-le (c.min-sources.result + 2) (replicate 1026 0) (omega (arith, c.min-sources.ensures, length-replicate {A = ℕ} 1026 0)) ∙ omega (arith, c.min-sources.ensures))
    (omega (arith, c.min.ensures)) sixteen room
