-- `line_at` meets its contract: each way out is one law of proofs/Making.antt. Assumes nothing.
use mathlib.Core.Path.{◌∙◌, ap}
use native.Mathlib.Omega.{arith}
use Rattle.result_sheets.specs.Page.{piece_line}
use Rattle.pages.proofs.Making.{place_fits, at_past, at_names, at_blank, at_outcome, at_piece}
use Rattle.pages.proofs.line_at.Goals as goal

pub returns-then-page_count-number : goal.returns-then-page_count-number
returns-then-page_count-number c =
    c.blank_line.ensures ∙ at_past _ _ _ _ _ _ c.requires c.listed_count-listed.ensures c.page_count.ensures (omega (arith, c.if-page_count-number.true))

pub returns-then-line-eq0 : goal.returns-then-line-eq0
returns-then-line-eq0 c =
    c.names_line.ensures
    ∙ at_names _ _ _ _ _ _ c.requires c.listed_count-listed.ensures c.page_count.ensures (omega (arith, c.if-page_count-number.false)) c.if-line-eq0.true

pub overflow_mul-i : goal.overflow_mul-i
overflow_mul-i c =
    omega (arith, place_fits c.args.found c.args.answer.now c.args.number c.args.line _ _ c.requires c.listed_count-listed.ensures c.page_count.ensures (omega arith) (omega (arith, c.if-page_count-number.false)))

pub overflow_add-i : goal.overflow_add-i
overflow_add-i c =
    omega (arith, place_fits c.args.found c.args.answer.now c.args.number c.args.line _ _ c.requires c.listed_count-listed.ensures c.page_count.ensures (omega arith) (omega (arith, c.if-page_count-number.false)))

pub returns-then-listed-i : goal.returns-then-listed-i
returns-then-listed-i c =
    c.blank_line-then-listed-i.ensures
    ∙ at_blank _ _ _ _ _ _ c.requires c.listed_count-listed.ensures c.page_count.ensures (omega (arith, c.if-page_count-number.false)) c.if-line-eq0.false (omega (arith, c.if-listed-i.true))

pub returns-then-found-ne-SOLVED : goal.returns-then-found-ne-SOLVED
returns-then-found-ne-SOLVED c =
    c.outcome_line.ensures
    ∙ at_outcome _ _ _ _ _ _ c.requires c.listed_count-listed.ensures c.page_count.ensures (omega (arith, c.if-page_count-number.false)) c.if-line-eq0.false c.if-listed-i.false c.if-found-ne-SOLVED.true

pub returns : goal.returns
returns c =
    c.piece_line.ensures
    ∙ ap piece_line c.row_at.ensures
    ∙ at_piece _ _ _ _ _ _ c.requires c.listed_count-listed.ensures c.page_count.ensures (omega (arith, c.if-page_count-number.false)) c.if-line-eq0.false c.if-listed-i.false c.if-found-ne-SOLVED.false
