-- `byte_of` meets its contract. Assumes nothing.
use native.Mathlib.Omega.{arith}
use borrow.Author.Tests.{le-ltb}
use Rattle.maker.specs.inner.Filling.{byte_in}
use borrow.Author.Rules.{rules}
use Rattle.maker.proofs.byte_of.Goals as goal

pub returns-in-0 : goal.returns-in-0
unfolding byte_in
returns-in-0 c = rw (c.in-0.is)

pub returns-in-1 : goal.returns-in-1
unfolding byte_in
returns-in-1 c = rw (c.in-1.is)

pub returns-in_default : goal.returns-in_default
unfolding byte_in
returns-in_default c = let a = c.args in rw (le-ltb a.kind 2 (omega (arith, c.in_default))) (search rules)
