-- The two solvers are one call but for their names: for every input the same record, and the same left in what is lent. That `lw_solve` and
-- `lw_solve_pieces` are these calls are `solve_says` and `solve_pieces_says` (linkwords/proofs/Calls.antt). Assumes nothing.
use mathlib.Core.Path.{◌≡◌, refl}
use mathlib.Core.List.{List}
use Prim.Native.Nat.{ℕ}
use Rattle.calls.specs.Calls.{lw-solve, lw-solve-pieces, record_of, left_by}

pub same_solve : (table answer work : List ℕ)
    → (record_of (lw-solve-pieces table answer work) ≡ record_of (lw-solve table answer work)) × (left_by (lw-solve-pieces table answer work) ≡ left_by (lw-solve table answer work))
same_solve table answer work = (refl, refl)
