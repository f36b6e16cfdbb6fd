-- `piece_line` meets its contract. Assumes nothing.
use mathlib.Core.Path.{◌∙◌}
use Rattle.result_sheets.specs.Page.{line_of, piece_line}
use Rattle.pages.specs.inner.Lines.{four_cells}
use Rattle.pages.proofs.piece_line.Goals as goal

pub returns : goal.returns
unfolding piece_line line_of four_cells
returns c =
    c.four_cells.ensures ∙ rw (c.number_cell-fresh.ensures, c.number_cell-width.ensures, c.number_cell-kind.ensures, c.number_cell-variable.ensures, c.from.ensures, c.from-2.ensures, c.from-3.ensures, c.from-4.ensures)
