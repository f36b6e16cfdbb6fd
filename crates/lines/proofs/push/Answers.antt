-- `push` meets its contract. Assumes nothing.
use mathlib.Core.Path.{refl}
use native.Mathlib.Omega.{arith}
use borrow.Author.Tests.{lt-ltb, le-ltb}
use Rattle.lines.specs.inner.Push.{pushed}
use Rattle.lines.proofs.push.Goals as goal

pub returns-else-t-lt80 : goal.returns-else-t-lt80
unfolding pushed
returns-else-t-lt80 c = rw (le-ltb c.args.t.len 80 (omega (arith, c.if-t-lt80.false))) refl

pub returns-then-t-lt80 : goal.returns-then-t-lt80
unfolding pushed
returns-then-t-lt80 c = rw (lt-ltb c.args.t.len 80 (omega (arith, c.if-t-lt80.true))) refl
