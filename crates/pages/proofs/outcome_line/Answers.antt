-- `outcome_line` meets its contract. Assumes nothing.
use mathlib.Core.Path.{◌∙◌, ap}
use mathlib.Core.List.{List}
use Prim.Native.Nat.{ℕ}
use lib.ListN.{replicate}
use Rattle.result_sheets.specs.Page.{cell, line_of, outcome_line}
use Rattle.pages.specs.inner.Lines.{four_cells}
use Rattle.pages.proofs.outcome_line.Goals as goal

pub returns : goal.returns
unfolding outcome_line line_of four_cells cell
returns c =
    c.four_cells.ensures
    ∙ ap (λ (x : List ℕ). four_cells x (replicate 10 32) (replicate 10 32) (replicate 10 32)) c.number_cell.ensures
