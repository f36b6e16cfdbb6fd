-- `values` meets its contract: the numbers before an index are pushed. Assumes nothing.
use mathlib.Core.Path.{◌≡◌, ◌∙◌, ap}
use native.Mathlib.Omega.{arith}
use Rattle.lines.proofs.Pushing.{values_next, values_none}
use Prim.Native.Nat.{◌+◌}
use lib.ListN.{length}
use Rattle.sheets.specs.declared.Text.{Text}
use Rattle.lines.specs.inner.Push.{push_all, fields}
use Rattle.lines.proofs.values.Goals.{then-i-numbers, else-i-numbers}
use Rattle.lines.proofs.values.Goals as goal

pub loop-i-preserved : goal.loop-i-preserved
loop-i-preserved c =
    let is : c.loop-i.i + 1 ≡ length c.args.numbers.now → c.if-i-numbers.end ≡ 10 =
    λ e. elim c.if-i-numbers.branch [ then-i-numbers w ↦ w.end-is | else-i-numbers w ↦ absurd (w.if-i-numbers.false e) ] in
    let other : (c.loop-i.i + 1 ≡ length c.args.numbers.now → ⊥) → c.if-i-numbers.end ≡ 32 =
    λ n. elim c.if-i-numbers.branch [ then-i-numbers w ↦ absurd (n w.if-i-numbers.true) | else-i-numbers w ↦ w.end-is ] in
    values_next _ _ _ c.loop-i.i _ (omega (arith, c.loop-i-test.true)) is other c.put_number-line.ensures ∙ c.loop-i.invariant

pub returns : goal.returns
returns c =
    values_none _ c.args.numbers.now c.loop-i.i (omega (arith, c.loop-i-test.false)) ∙ c.loop-i.invariant ∙ ap (λ (t : Text). push_all t (fields c.args.numbers.now)) c.empty-line.ensures
