-- The number of a kind. Assumes nothing.
use Prim.Native.Nat.{ℕ, ◌≤◌}
use native.Mathlib.Omega.{arith}
use Rattle.std.specs.Prelude.{Some}
use Rattle.rules.specs.declared.Kind.{Kind}
use Rattle.rules.specs.declared.Kind.TheVariants.{Variable, Constant, Concat, Extract, Equation, Value}
use Rattle.rules.specs.inner.Kinds.{HasNumber}

pub few : (k : Kind) (n : ℕ) → HasNumber (Some k) n → n ≤ 5
few Variable n h = omega (arith, h)
few Constant n h = omega (arith, h)
few Concat n h = omega (arith, h)
few Extract n h = omega (arith, h)
few Equation n h = omega (arith, h)
few Value n h = omega (arith, h)
