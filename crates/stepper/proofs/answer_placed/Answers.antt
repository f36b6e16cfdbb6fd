-- `answer_placed` meets its contract. Assumes nothing.
use mathlib.Core.Path.{◌∙◌}
use Prim.Native.Nat.{ℕ, ◌+◌}
use native.Mathlib.Omega.{arith}
use lib.ListN.{replicate, length-replicate}
use lib.Seq.{length-take-le}
use Rattle.terms.proofs.AcceptedTable.{table_bits}
use Rattle.stepper.proofs.answer_placed.Goals as goal

pub returns : goal.returns
returns c =
    λ placed plain wide.
    let many = length-take-le {A = ℕ} (c.min-sources.result + 2) (replicate 4098 0) (omega (arith, c.min-sources.ensures, length-replicate {A = ℕ} 4098 0)) in
    c.answer_with.ensures (many ∙ omega (arith, c.min-sources.ensures, wide, table_bits _ placed.numbered.accepted)) placed plain wide
