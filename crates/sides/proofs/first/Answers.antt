-- `first` meets its contract. Assumes nothing.
use mathlib.Core.Path.{sym, subst}
use Rattle.sides.specs.inner.Reading.{Stands}
use Rattle.sides.proofs.Reading.{first_stands}
use Rattle.sides.proofs.first.Goals as goal

pub returns : goal.returns
returns c =
    record { is = c.begin.ensures; stands = subst (Stands c.args.lows.now c.args.form.now 0) (sym c.begin.ensures) (first_stands _ _) }
