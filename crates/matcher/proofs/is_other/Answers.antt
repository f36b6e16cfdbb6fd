-- `is_other` meets its contract: there is room for the rows of 4,096 bits. Assumes nothing.
use native.Mathlib.Omega.{arith}
use Rattle.terms.proofs.AcceptedTable.{table_bits}
use Rattle.matcher.proofs.is_other.Goals as goal

pub returns-else-bits-le128 : goal.returns-else-bits-le128
returns-else-bits-le128 c =
    λ placed wide form. c.is_not_in-else-bits-le128.ensures (omega (arith, wide, table_bits _ placed.numbered.accepted)) placed wide form
