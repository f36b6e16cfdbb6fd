-- `answer_in` meets its contract. Assumes nothing.
use mathlib.Core.Path.{◌∙◌}
use Prim.Native.Nat.{ℕ}
use native.Mathlib.Omega.{arith}
use lib.ListN.{replicate, length-replicate}
use lib.Seq.{length-take-le}
use Rattle.solver.proofs.answer_in.Goals as goal

pub returns : goal.returns
returns g c =
    λ fit placed bits.
    c.answer_table.ensures (length-take-le c.min-sources.result (replicate g.row.LINKS 0) (omega (arith, c.min-sources.ensures, length-replicate {A = ℕ} g.row.LINKS 0)) ∙ omega (arith, c.min-sources.ensures, c.saturating_add.ensures)) placed bits
