-- `right_part` meets its contract: the counts over the rows in use, as they are lent on, are those of the definitions. Assumes nothing.
use mathlib.Core.Path.{◌≡◌, sym, ◌∙◌}
use native.Mathlib.Omega.{arith}
use Rattle.answers.specs.RightSide.{right_side_length, variables_in_use}
use Rattle.answers.proofs.Runs.{run_le}
use Rattle.answers.proofs.RightSide.{length_is, start_empty, start_is, empty_past, in_use_fit}
use Rattle.answer_table.proofs.First.{empty_none, run_is}
use Rattle.answer_table.proofs.right_part.Goals as goal

pub returns-then-answer-rows : goal.returns-then-answer-rows
returns-then-answer-rows c =
    let s = c.args in
    let e : right_side_length s.answer.now s.rows s.variable ≡ 0 = empty_past s.answer.now s.rows s.variable c.if-answer-rows.true in
    record { start = sym (start_empty s.answer.now s.rows s.variable e); len = sym e }

pub returns-in_default : goal.returns-in_default
returns-in_default c =
    let s = c.args in
    let e : right_side_length s.answer.now s.rows s.variable ≡ 0 =
    empty_none s.answer.now s.rows s.variable c.if-answer-rows.false (sym c.first_row.ensures ∙ c.in_default.is) in
    record { start = sym (start_empty s.answer.now s.rows s.variable e); len = sym e }

pub overflow_mul-result : goal.overflow_mul-result
overflow_mul-result c =
    let s = c.args in
    let h = c.if-answer-rows.false in
    let k = run_is s.answer.now s.rows s.variable _ _ h (sym c.first_row.ensures ∙ c.in-Some.is) c.rows_on-count.ensures in
    omega (arith, k.0, run_le s.variable (variables_in_use s.answer.now s.rows), in_use_fit s.answer.now s.rows)

pub overflow_mul-result-2 : goal.overflow_mul-result-2
overflow_mul-result-2 c =
    let s = c.args in
    let h = c.if-answer-rows.false in
    let k = run_is s.answer.now s.rows s.variable _ _ h (sym c.first_row.ensures ∙ c.in-Some.is) c.rows_on-count.ensures in
    omega (arith, k.1, run_le s.variable (variables_in_use s.answer.now s.rows), in_use_fit s.answer.now s.rows)

pub returns : goal.returns
returns c =
    let s = c.args in
    let h = c.if-answer-rows.false in
    let k = run_is s.answer.now s.rows s.variable _ _ h (sym c.first_row.ensures ∙ c.in-Some.is) c.rows_on-count.ensures in
    let l = length_is s.answer.now s.rows s.variable in
    record { start = omega (arith, k.0, start_is s.answer.now s.rows s.variable (λ e. omega (arith, l, k.1, k.2, e))); len = omega (arith, k.1, l) }
