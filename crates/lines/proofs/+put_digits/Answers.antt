-- `put_digits` meets its contract: the rest's digits first, then the last digit. Assumes nothing.
use Rattle.std.proofs.Common.{◌∙◌}
use native.Mathlib.Omega.{arith}
use Rattle.lines.proofs.Pushing.{push_digits_none, push_digits_one, push_digits_more}
use Rattle.lines.proofs.+put_digits.Goals as goal

pub returns-then-most-eq0 : goal.returns-then-most-eq0
returns-then-most-eq0 t c = push_digits_none _ _ _ c.if-most-eq0.true

pub returns-then-n-lt10 : goal.returns-then-n-lt10
returns-then-n-lt10 t c = c.push.ensures ∙ push_digits_one _ _ _ c.if-most-eq0.false (omega (arith, c.if-n-lt10.true))

pub returns : goal.returns
returns t c = c.push-2.ensures ∙ push_digits_more _ _ _ _ c.if-most-eq0.false (omega (arith, c.if-n-lt10.false)) c.put_digits-rest.ensures
