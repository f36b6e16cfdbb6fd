-- `row_at` meets its contract: a row's four columns stand side by side. Assumes nothing.
use Rattle.answers.proofs.AnswerNumbers.{answer-columns, answer_past}
use Rattle.answer_table.proofs.row_at.Goals as goal

pub returns-then-answer-i : goal.returns-then-answer-i
returns-then-answer-i c = answer_past c.args.answer.now c.args.i c.if-answer-i.true

pub returns : goal.returns
returns c =
    answer-columns c.args.answer.now c.args.i c.if-answer-i.false
