-- `bit_of` meets its contract: a number of 16 bits has no bit above them. Assumes nothing.
use mathlib.Core.Path.{sym, ap}
use Prim.Native.Nat.{ℕ, ◌%◌}
use native.Mathlib.Omega.{arith}
use native.Mathlib.Nat.{div-eq_of_lt, lt_of_lt_of_le}
use lib.Pow.{pow_mono}
use Rattle.numbers.proofs.bit_of.Goals as goal

pub returns-else-i-le15 : goal.returns-else-i-le15
returns-else-i-le15 c = (sym (ap (λ (n : ℕ). n % 2) (div-eq_of_lt (lt_of_lt_of_le c.ranges.x.fits (pow_mono {i = 16} (omega (arith, c.if-i-le15.false)))))), omega arith)
