-- `along` meets its contract. Assumes nothing.
use native.Mathlib.Omega.{arith}
use Rattle.slices.proofs.SideBySide.{along_fixed, along_place}
use Rattle.runs.proofs.along.Goals as goal

pub returns-then-source-lt2 : goal.returns-then-source-lt2
returns-then-source-lt2 c = omega (arith, along_fixed c.args.source c.args.n c.if-source-lt2.true, c.if-source-lt2.true)

pub returns-else-source-lt2 : goal.returns-else-source-lt2
returns-else-source-lt2 c = omega (arith, along_place c.args.source c.args.n c.if-source-lt2.false)
