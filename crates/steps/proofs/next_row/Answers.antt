-- `next-row` meets its contract. Assumes nothing.
use mathlib.Core.Path.{refl, ◌∙◌, ap}
use Prim.Native.Nat.{ℕ, ◌%◌}
use borrow.Author.Tests.{eq-eqb, ne_eqb}
use Rattle.steps.specs.inner.Steps.{next_row}
use Rattle.steps.proofs.next_row.Goals as goal

pub returns-then-row-r : goal.returns-then-row-r
unfolding next_row
returns-then-row-r c = rw (eq-eqb _ _ c.if-row-r.true) refl

pub returns : goal.returns
unfolding next_row
returns c = rw (ne_eqb _ _ c.if-row-r.false) (c.short.ensures ∙ ap (λ (n : ℕ). n % 4294967296) c.next_equation.ensures)
