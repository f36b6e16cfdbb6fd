-- `cut_right` meets its contract. Assumes nothing.
use mathlib.Core.Path.{refl}
use native.Mathlib.Omega.{arith}
use Rattle.runs.proofs.Cutting.{right_cut}
use Rattle.runs.proofs.cut_right.Goals as goal

pub returns-then-end-t : goal.returns-then-end-t
returns-then-end-t c = λ few some room₁ room₂. right_cut _ _ _ _ _ _ _ _ _ _ _ _ (omega (arith, c.if-end-t.true)) c.from.ensures c.from-then-end-t.ensures refl c.saturating_sub.ensures c.put_run.ensures c.from-then-end-t-2.ensures c.store.ensures few some room₁ room₂
