-- `page_count` meets its contract. Assumes nothing.
use native.Mathlib.Omega.{arith}
use Rattle.pages.specs.inner.Lines.{pages_of}
use Rattle.pages.proofs.page_count.Goals as goal

pub returns : goal.returns
unfolding pages_of
returns c = omega (arith, c.saturating_sub.ensures)
