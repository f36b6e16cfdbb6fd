-- `answer` of InPieces meets the contract of crate solver's trait. Assumes nothing.
use mathlib.Core.Path.{◌∙◌}
use Prim.Native.Nat.{ℕ, ◌+◌}
use native.Mathlib.Omega.{arith}
use lib.ListN.{replicate, length-replicate}
use lib.Seq.{length-take-le}
use Rattle.terms.proofs.AcceptedTable.{table_bits}
use Rattle.piecewise.proofs.InPiecesSolving.answer.Goals as goal

pub returns : goal.returns
returns c =
    λ placed bits.
    c.answer_table.ensures (length-take-le (c.min-sources.result + 2) (replicate 4098 0) (omega (arith, c.min-sources.ensures, length-replicate {A = ℕ} 4098 0)) ∙ omega (arith, c.min-sources.ensures, bits, table_bits _ placed.numbered.accepted)) placed bits
