-- `answer_taken` meets its contract: the homes are set behind the rows, of proofs/Concluding.antt. Assumes nothing.
use mathlib.Core.Path.{refl}
use Rattle.solver.proofs.Concluding.{taken_bits, homes_set, no_homes}
use native.Mathlib.Omega.{arith}
use Rattle.solver.proofs.answer_taken.Goals as goal

pub returns-then-found-eq2 : goal.returns-then-found-eq2
returns-then-found-eq2 c =
    λ accepted bits space room other F.
    let d = c.conclude-found in
    homes_set other F.accepted _ _ d.result (d.ensures accepted bits other F) c.if-found-eq2.true _ _ _ refl c.put_homes.ensures space (omega (arith, room, bits, taken_bits F))

pub returns-else-found-eq2 : goal.returns-else-found-eq2
returns-else-found-eq2 c =
    λ accepted bits space room other F.
    let d = c.conclude-found in
    no_homes other F.accepted _ _ d.result (d.ensures accepted bits other F) c.if-found-eq2.false
