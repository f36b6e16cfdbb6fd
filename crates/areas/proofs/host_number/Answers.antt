-- `host_number` meets its contract. Assumes nothing.
use mathlib.Core.Path.{refl}
use borrow.Author.Tests.{lt-ltb, le-ltb}
use Rattle.jobs.specs.Prefix.{host_number}
use Rattle.areas.proofs.host_number.Goals as goal

pub returns-then-s-lt2 : goal.returns-then-s-lt2
unfolding host_number
returns-then-s-lt2 c = rw (lt-ltb _ _ c.if-s-lt2.true) refl

pub returns-else-s-lt2 : goal.returns-else-s-lt2
unfolding host_number
returns-else-s-lt2 c = rw (le-ltb _ _ c.if-s-lt2.false) refl
