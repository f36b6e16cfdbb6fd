-- `empty` meets its contract. Assumes nothing.
use mathlib.Core.Path.{refl}
use Rattle.laws.specs.Buffers.{overwrite}
use Rattle.sheets.specs.Print.{line_of}
use Rattle.lines.proofs.empty.Goals as goal

pub returns : goal.returns
unfolding line_of overwrite
returns c = refl
