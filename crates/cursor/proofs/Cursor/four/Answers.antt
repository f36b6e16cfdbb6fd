-- `four` meets its contract: a line found in decimal is the line. Assumes nothing.
use mathlib.Core.Path.{sym}
use Rattle.cursor.proofs.Decimals.{decimal-line}
use Rattle.cursor.proofs.Cursor.four.Goals as goal

pub returns-in-Some : goal.returns-in-Some
returns-in-Some c order = let a = c.args in sym (decimal-line a.text.now order a.self.at _ _ (sym (c.in-Some.ensures order)))
