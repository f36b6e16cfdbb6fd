-- `find_starts` meets its contract: the starts before place i are taken. Assumes nothing.
use mathlib.Core.Path.{◌≡◌, refl, ◌∙◌, ap}
use Prim.Native.Nat.{ℕ, ◌+◌, ◌-◌}
use native.Mathlib.Omega.{arith}
use lib.ListN.{take, drop}
use Rattle.positions.proofs.Taking.{taking_first, taking_more, taking_all}
use Rattle.positions.proofs.find_starts.Goals as goal

pub loop-i-init : goal.loop-i-init
loop-i-init c = (taking_first _ _ _, refl)

pub loop-i-preserved : goal.loop-i-preserved
loop-i-preserved c =
    let l = c.loop-i in
    let t = c.take_start-found in
    let whole : l.i + c.args.k - l.i ≡ c.args.k = omega arith in (
      taking_more _ _ _ _ _ _ _ _ _ _ l.invariant.0 (omega (arith, c.loop-i-test.true, c.saturating_sub-i-end.ensures)) (ap (λ (n : ℕ). take n (drop l.i c.args.words.now)) whole) t.ensures.count t.ensures.list,
      t.auto.list ∙ l.invariant.1,
    )

pub returns : goal.returns
returns c =
    let T = c.loop-i.invariant.0 in
    let all = taking_all _ _ _ _ _ _ _ c.requires.le_k (omega (arith, c.loop-i-test.false, c.saturating_sub-i-end.ensures)) T in
    record { count = (all.0, omega (arith, T.few, c.saturating_sub-i-end.ensures, c.requires)); list = all.1 }
