-- `right_side` meets its contract: the part lies within the table lent. Assumes nothing.
use Prim.Native.Nat.{ℕ, ◌+◌, ◌-◌}
use mathlib.Core.Path.{◌≡◌, ap₂}
use native.Mathlib.Omega.{arith}
use lib.ListN.{take, drop}
use Rattle.answers.specs.RightSide.{right_side, right_side_length}
use Rattle.answers.proofs.RightSide.{part_lent}
use Rattle.answer_table.proofs.right_side.Goals as goal

pub overflow_add-result : goal.overflow_add-result
overflow_add-result c =
    let s = c.args in
    omega (arith, c.right_part-part.ensures.start, c.right_part-part.ensures.len, part_lent s.answer.now s.rows s.variable)

pub offset_bounds-answer-part : goal.offset_bounds-answer-part
offset_bounds-answer-part c =
    let s = c.args in
    omega (arith, c.right_part-part.ensures.start, c.right_part-part.ensures.len, part_lent s.answer.now s.rows s.variable)

pub returns : goal.returns
unfolding right_side
returns c =
    let s = c.args in
    let p = c.right_part-part.result in
    let e = c.right_part-part.ensures in
    let n : p.start + p.len - p.start ≡ right_side_length s.answer.now s.rows s.variable = omega (arith, e.len) in
    ap₂ (λ (m i : ℕ). take m (drop i s.answer.now)) n e.start

pub slice_bounds-result-end : goal.slice_bounds-result-end
slice_bounds-result-end c =
    let s = c.args in
    omega (arith, c.right_part-part.ensures.start, c.right_part-part.ensures.len, part_lent s.answer.now s.rows s.variable)
