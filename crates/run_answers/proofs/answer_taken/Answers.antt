-- `answer_taken` meets its contract: the homes are set behind the rows, of Concluding.antt of crate solver. Assumes nothing.
use mathlib.Core.Path.{refl}
use native.Mathlib.Omega.{arith}
use Rattle.solver.proofs.Concluding.{homes_set, no_homes}
use Rattle.run_answers.proofs.answer_taken.Goals as goal

pub returns-then-found-eq2 : goal.returns-then-found-eq2
returns-then-found-eq2 c =
    λ accepted bits space room T.
    let d = c.conclude-found in
    homes_set c.args.table.now accepted _ _ d.result (d.ensures accepted bits T) c.if-found-eq2.true _ _ _ refl c.put_homes.ensures space (omega (arith, room, bits))

pub returns-else-found-eq2 : goal.returns-else-found-eq2
returns-else-found-eq2 c =
    λ accepted bits space room T.
    let d = c.conclude-found in
    no_homes c.args.table.now accepted _ _ d.result (d.ensures accepted bits T) c.if-found-eq2.false
