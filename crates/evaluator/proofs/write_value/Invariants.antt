-- `write_value` meets its contract: i bits of the value are written. Assumes nothing.
use Rattle.laws.specs.Buffers.{overwrite}
use Rattle.terms.specs.Table.{rows_of, value_of}
use lib.ListN.{length, take}
use mathlib.Core.Path.{◌≡◌}
use Rattle.evaluator.proofs.write_value.Given as goal

abbrev pub invariant-loop-i : goal.invariant-loop-i
invariant-loop-i l =
    (length l.output ≡ length l.initial.output) × (l.output ≡ overwrite (take l.i (value_of (rows_of l.table) l.pattern l.row)) l.initial.output)
