-- `answer_values` meets its contract: its numbers one behind the other. Assumes nothing.
use Rattle.lines.specs.inner.Push.{fields}
use Rattle.lines.proofs.Pushing.{whole_line}
use Rattle.sheets.specs.Print.{answer_values}
use Rattle.sheets.proofs.Lengths.{answer_values_few}
use mathlib.Core.Path.{refl}
use Rattle.lines.proofs.answer_values.Goals as goal

pub returns : goal.returns
unfolding answer_values fields
returns c =
    whole_line _ _ _ (answer_values_few _ _ _ _ _ _) refl
    (rw (← c.from.ensures, ← c.from-2.ensures, ← c.from-3.ensures, ← c.from-4.ensures, ← c.from-5.ensures, ← c.from-6.ensures) c.values.ensures)
