-- `record_values` meets its contract: its numbers one behind the other. Assumes nothing.
use Rattle.lines.specs.inner.Push.{fields}
use Rattle.lines.proofs.Pushing.{whole_line}
use Rattle.sheets.specs.Print.{record_values}
use Rattle.sheets.proofs.Lengths.{record_values_few}
use mathlib.Core.Path.{refl}
use Rattle.lines.proofs.record_values.Goals as goal

pub returns : goal.returns
unfolding record_values fields
returns c = whole_line _ _ _ (record_values_few _) refl c.values.ensures
