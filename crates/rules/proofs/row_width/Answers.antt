-- `row_width` meets its contract, kind by kind. Assumes nothing.
use mathlib.Core.Path.{◌≡◌, refl, ap₂}
use mathlib.Core.Logic.{⊎_elim}
use Prim.Native.Nat.{◌+◌, ◌<◌}
use Rattle.terms.specs.Table.{width_in, by_kind}
use Rattle.terms.proofs.RowKinds.{each_kind}
use native.Mathlib.Omega.{arith}
use Rattle.rules.proofs.row_width.Goals as goal

pub returns-in_default : goal.returns-in_default
unfolding width_in
returns-in_default c =
    let high : 5 < c.args.row.kind = c.in_default.ensures in (
      each_kind _ _ (λ h. absurd (omega arith)) (λ h. absurd (omega arith)) (λ h. absurd (omega arith)) (λ h. absurd (omega arith)) (λ h. absurd (omega arith)) (λ h. c.into.ensures),
      omega (arith, c.into.ensures),
    )

pub returns-in-Variable : goal.returns-in-Variable
unfolding width_in by_kind
returns-in-Variable c = let n : c.args.row.kind ≡ 0 = rw c.in-Variable.is at c.in-Some.ensures in (rw n c.into-in-Variable.ensures, omega (arith, c.into-in-Variable.ensures))

pub returns-in-Constant : goal.returns-in-Constant
unfolding width_in by_kind
returns-in-Constant c =
    let row = c.args.row in (
      ⊎_elim (λ e. let n : row.kind ≡ 1 = rw e at c.in-Some.ensures in rw n c.into-in-Constant.ensures) (λ e. let n : row.kind ≡ 5 = rw e at c.in-Some.ensures in rw n c.into-in-Constant.ensures) c.in-Constant.is,
      omega (arith, c.into-in-Constant.ensures),
    )

pub returns-in-Concat : goal.returns-in-Concat
unfolding width_in by_kind
returns-in-Concat c =
    let n : c.args.row.kind ≡ 2 = rw c.in-Concat.is at c.in-Some.ensures in
    (rw n (ap₂ ◌+◌ c.width_at.ensures.0 c.width_at-in-Concat.ensures.0), omega (arith, c.width_at.ensures.1, c.width_at-in-Concat.ensures.1))

pub returns-in-Extract : goal.returns-in-Extract
unfolding width_in by_kind
returns-in-Extract c =
    let n : c.args.row.kind ≡ 3 = rw c.in-Extract.is at c.in-Some.ensures in
    (rw n (omega (arith, c.saturating_sub.ensures, c.from.ensures, c.into-in-Extract.ensures)), omega (arith, c.saturating_sub.ensures, c.from.ensures))

pub returns-in-Equation : goal.returns-in-Equation
unfolding width_in by_kind
returns-in-Equation c = let n : c.args.row.kind ≡ 4 = rw c.in-Equation.is at c.in-Some.ensures in (rw n refl, omega arith)
