-- `put_bits` meets its contract: when the next bit is below k the form has bits high to k of the number. Assumes nothing.
use mathlib.Core.Path.{◌≡◌, refl, ◌∙◌}
use Prim.Native.Nat.{◌+◌, ◌-◌}
use native.Mathlib.Omega.{arith}
use Rattle.laws.specs.Binary.{binary}
use Rattle.appender.proofs.Appending.{appended_none, appended_bit}
use Rattle.appender.proofs.put_bits.Goals as goal

pub loop-k-init : goal.loop-k-init
unfolding binary
loop-k-init c =
    let e : c.args.high + 1 - (c.from-k.result + 1) ≡ 0 = omega (arith, c.from-k.ensures) in
    (refl, λ h. omega (arith, h, c.from-k.ensures), λ t. rw e (appended_none t _ _))

pub loop-k-preserved : goal.loop-k-preserved
loop-k-preserved c =
    let l = c.loop-k in (
      c.push-m.auto.out ∙ l.invariant.0,
      λ h. omega (arith, c.loop-k-test.true, c.from-k-start.ensures),
      λ t.
          appended_bit t _ c.args.high l.k (l.k - 1) _ _ _ _ (omega (arith, c.loop-k-test.true)) (omega (arith, l.auto.k, c.from-k.ensures))
          (l.invariant.2 t) _ c.bit_of.ensures.0 _ c.bit_piece.ensures _ _ c.push-m.ensures.count c.push-m.ensures.numbers,
    )

pub returns : goal.returns
returns c t h =
    let l = c.loop-k in
    let e : l.k ≡ c.args.low = omega (arith, l.invariant.1 h, c.loop-k-test.false, c.from-k-start.ensures) in
    rw e at (l.invariant.2 t)
