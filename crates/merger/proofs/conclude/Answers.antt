-- `conclude` meets its contract. Assumes nothing.
use mathlib.Core.Path.{refl}
use Rattle.merger.specs.inner.Passing.{concluded}
use Rattle.merger.proofs.conclude.Goals as goal

pub returns : goal.returns
unfolding concluded
returns c = refl
