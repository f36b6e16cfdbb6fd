-- `hexadecimal` meets its contract: one more digit, and the value has room in the digits read. Assumes nothing.
use mathlib.Core.Path.{◌≡◌, ◌∙◌}
use Prim.Native.Nat.{suc, ◌-◌}
use native.Mathlib.Omega.{arith}
use Rattle.sheets.proofs.Numbers.{hex_goes_on, room_most, room_next}
use Rattle.cursor.proofs.Cursor.hexadecimal.Goals as goal

pub overflow_mul-v : goal.overflow_mul-v
overflow_mul-v c = let p = c.loop-d in omega (arith, room_most p.more p.v p.invariant.1.1.0)

pub overflow_add-v : goal.overflow_add-v
overflow_add-v c = let p = c.loop-d in omega (arith, room_most p.more p.v p.invariant.1.1.0, c.in-Some.ensures.bound.0)

pub loop-d-preserved : goal.loop-d-preserved
loop-d-preserved c =
    let p = c.loop-d in
    let d = c.in-Some.d in
    let e = c.in-Some.ensures in
    let one : p.more ≡ suc (p.more - 1) = omega (arith, c.if-more-eq0.false) in (
      omega (arith, e.bound.1),
      (
        omega (arith, p.invariant.1.0),
        (
          room_next p.more (p.more - 1) p.v d p.invariant.1.0 one e.bound.0 p.invariant.1.1.0,
          hex_goes_on c.args.text.now p.more p.v p.i e.bound.1 d e.value (p.more - 1) e.bound.0 one ∙ p.invariant.1.1.1,
        ),
      ),
    )

pub overflow_cast-result : goal.overflow_cast-result
overflow_cast-result c = let p = c.loop-d in omega (arith, room_most p.more p.v p.invariant.1.1.0)
