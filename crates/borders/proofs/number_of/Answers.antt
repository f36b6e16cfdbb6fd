-- `number_of` meets its contract. Assumes nothing.
use Prim.Native.Nat.{ℕ}
use mathlib.Core.Path.{◌∙◌, ap}
use lib.ListN.{get_or}
use borrow.Author.Tests.{lt-ltb, le-ltb}
use Rattle.borders.specs.inner.Borders.{number_in}
use Rattle.borders.proofs.number_of.Goals as goal

pub returns-then-r-lt2 : goal.returns-then-r-lt2
unfolding number_in
returns-then-r-lt2 c = rw (lt-ltb _ _ c.if-r-lt2.true)

pub returns-else-r-lt2 : goal.returns-else-r-lt2
unfolding number_in
returns-else-r-lt2 c = rw (le-ltb _ _ c.if-r-lt2.false) (c.load.ensures ∙ ap (λ (x : ℕ). get_or c.args.numbers.now x 0) c.from.ensures)
