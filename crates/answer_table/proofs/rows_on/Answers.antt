-- `rows_on` meets its contract: the rows passed, with what the rest gives, are what goes on from the first. Assumes nothing.
use native.Mathlib.Omega.{arith}
use Rattle.answers.specs.RightSide.{row_variables}
use Rattle.answers.proofs.AnswerNumbers.{variables_length}
use Rattle.answers.proofs.Runs.{on_end, on_goes, on_ends}
use Rattle.answer_table.proofs.rows_on.Goals as goal

pub returns-then-from-variable : goal.returns-then-from-variable
returns-then-from-variable c =
    let w = c.loop-i in
    let s = c.args in
    omega (
      arith,
      on_ends s.variable s.used.now w.i
          (omega (arith, c.loop-i-test.true))
          c.row_at.result
          c.row_at.ensures
          s.first
          (λ q. omega (arith, c.from.ensures, c.if-from-variable.true, q))
          w.invariant.1,
    )

pub loop-i-preserved : goal.loop-i-preserved
loop-i-preserved c =
    let w = c.loop-i in
    let s = c.args in (
      omega (arith, c.loop-i-test.true),
      on_goes s.variable s.used.now w.i
          (omega (arith, c.loop-i-test.true))
          c.row_at.result
          c.row_at.ensures
          s.first
          (omega (arith, c.from.ensures, c.if-from-variable.false))
          w.invariant.1,
    )

pub returns : goal.returns
returns c =
    let w = c.loop-i in
    let s = c.args in
    omega (arith, w.invariant.0, w.invariant.1, on_end s.variable (row_variables s.used.now) w.i (omega (arith, variables_length s.used.now, c.loop-i-test.false)))
