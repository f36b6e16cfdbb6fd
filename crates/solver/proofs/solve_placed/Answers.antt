-- `solve_placed` meets its contract: an accepted table has at most 4096 variable bits. Assumes nothing.
use native.Mathlib.Omega.{arith}
use Rattle.terms.proofs.AcceptedTable.{table_bits}
use Rattle.solver.proofs.solve_placed.Goals as goal

pub returns-else-bits-le128 : goal.returns-else-bits-le128
returns-else-bits-le128 c = λ placed bits. c.answer_in-else-bits-le128.ensures (omega (arith, bits, table_bits _ placed.numbered.accepted)) placed bits
