-- `stretch` meets its contract: the rest of the run, or as far as nothing is marked. Assumes nothing.
use mathlib.Core.Path.{refl}
use Rattle.run_rows.proofs.Lining.{stretch_fixed, stretch_free}
use Rattle.run_rows.proofs.stretch.Goals as goal

pub returns-then-r-lt2 : goal.returns-then-r-lt2
returns-then-r-lt2 c = stretch_fixed _ _ _ _ _ _ _ c.from-at.ensures _ _ c.load.ensures refl c.saturating_sub-len.ensures _ c.load-r.ensures c.if-r-lt2.true

pub returns-else-r-lt2 : goal.returns-else-r-lt2
returns-else-r-lt2 c = stretch_free _ _ _ _ _ _ _ c.from-at.ensures _ _ c.load.ensures refl c.saturating_sub-len.ensures _ _ c.load-r.ensures c.if-r-lt2.false c.clear_from.ensures
