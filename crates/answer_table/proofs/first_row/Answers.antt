-- `first_row` meets its contract: the rows passed, with what the rest gives, are what the whole gives. Assumes nothing.
use mathlib.Core.Path.{◌≡◌}
use native.Mathlib.Omega.{arith}
use borrow.Author.Tests.{lt-ltb, le-ltb}
use lib.ListN.{length}
use Rattle.answers.specs.RightSide.{row_variables, rows_before}
use Rattle.answers.proofs.AnswerNumbers.{variables_length}
use Rattle.answers.proofs.Runs.{before_end, first_goes, first_found}
use Rattle.answer_table.specs.inner.Rows.{first_of}
use Rattle.answer_table.proofs.first_row.Goals as goal

pub returns-then-from-variable : goal.returns-then-from-variable
unfolding first_of
returns-then-from-variable c =
    let w = c.loop-i in
    let used = c.args.used.now in
    let e : w.i ≡ rows_before c.args.variable (row_variables used) =
    first_found _ used w.i (omega (arith, c.loop-i-test.true)) c.row_at.result c.row_at.ensures (omega (arith, c.from.ensures, c.if-from-variable.true)) w.invariant in
    rw (← e, lt-ltb w.i (length (row_variables used)) (omega (arith, c.loop-i-test.true, variables_length used)))

pub loop-i-preserved : goal.loop-i-preserved
loop-i-preserved c =
    let w = c.loop-i in
    first_goes _ c.args.used.now w.i
    (omega (arith, c.loop-i-test.true))
    c.row_at.result
    c.row_at.ensures
    (λ q. omega (arith, c.from.ensures, c.if-from-variable.false, q))
    w.invariant

pub returns : goal.returns
unfolding first_of
returns c =
    let w = c.loop-i in
    let used = c.args.used.now in
    let e = before_end c.args.variable (row_variables used) w.i (omega (arith, variables_length used, c.loop-i-test.false)) in
    rw (le-ltb (rows_before c.args.variable (row_variables used)) (length (row_variables used)) (omega (arith, e, w.invariant, variables_length used, c.loop-i-test.false)))
