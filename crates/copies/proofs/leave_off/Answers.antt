-- `leave_off` meets its contract. Assumes nothing.
use mathlib.Core.Path.{sym, ◌∙◌}
use Rattle.copies.proofs.Revised.{off_stored, off_not}
use Rattle.copies.proofs.leave_off.Goals as goal

pub returns-then-is_revised : goal.returns-then-is_revised
returns-then-is_revised c =
    λ few.
    off_stored _ _ (sym c.is_revised.ensures ∙ c.if-is_revised.true) few _ c.store_row.ensures

pub returns-else-is_revised : goal.returns-else-is_revised
returns-else-is_revised c = λ few. off_not _ _ (sym c.is_revised.ensures ∙ c.if-is_revised.false)
