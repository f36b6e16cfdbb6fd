-- `too_many` meets its contract: rule 17. Assumes nothing.
use Rattle.terms.specs.Faults.{too_many}
use borrow.Author.Tests.{lt-ltb, le-ltb}
use mathlib.Core.Logic.{⊎_elim}
use native.Mathlib.Omega.{arith}
use Rattle.rules.proofs.too_many.Goals as goal
use Rattle.rules.proofs.too_many.Goals.{then-variables-gt-MAX_VARIABLES, else-variables-gt-MAX_VARIABLES}

pub returns-then-bits-gt-MAX_BITS : goal.returns-then-bits-gt-MAX_BITS
unfolding too_many
returns-then-bits-gt-MAX_BITS c =
    elim c.if-variables-gt-MAX_VARIABLES.branch [
      | then-variables-gt-MAX_VARIABLES w ↦ rw (w.t-5-is, lt-ltb _ _ w.if-variables-gt-MAX_VARIABLES.true)
      | else-variables-gt-MAX_VARIABLES w ↦
          let few = w.if-variables-gt-MAX_VARIABLES.false in
          ⊎_elim (λ many. absurd (omega (arith, few, many))) (λ both. rw (w.t-5-is, le-ltb _ _ few, lt-ltb _ _ both.1)) c.if-bits-gt-MAX_BITS.either
    ]

pub returns-else-bits-gt-MAX_BITS : goal.returns-else-bits-gt-MAX_BITS
unfolding too_many
returns-else-bits-gt-MAX_BITS c = rw (le-ltb _ _ c.if-bits-gt-MAX_BITS.false.0, le-ltb _ _ c.if-bits-gt-MAX_BITS.false.1)
