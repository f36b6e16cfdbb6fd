-- `widen` meets its contract. Assumes nothing.
use mathlib.Core.Path.{refl}
use Rattle.run_rows.specs.inner.Wide.{wider}
use Rattle.run_rows.proofs.widen.Goals as goal

pub returns : goal.returns
returns c = unfold wider in refl
