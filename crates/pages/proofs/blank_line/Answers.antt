-- `blank_line` meets its contract. Assumes nothing.
use Rattle.result_sheets.specs.Page.{cell, line_of, blank_line}
use Rattle.pages.specs.inner.Lines.{four_cells}
use Rattle.pages.proofs.blank_line.Goals as goal

pub returns : goal.returns
unfolding blank_line line_of cell four_cells
returns c = c.four_cells.ensures
