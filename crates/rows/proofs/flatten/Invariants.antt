-- `flatten`: i rows are put, and `flat` holds their numbers at its beginning.
use Rattle.std.proofs.Common.{◌≡◌, length, take}
use Rattle.laws.specs.Buffers.{overwrite}
use Rattle.terms.specs.Table.{row_numbers}
use Rattle.rows.specs.inner.Held.{fitting}
use Rattle.rows.proofs.flatten.Given as goal

abbrev pub invariant-loop-i : goal.invariant-loop-i
invariant-loop-i l =
    (l.n ≡ fitting (length l.rows) (length l.initial.flat)) × (length l.flat ≡ length l.initial.flat) × (l.flat ≡ overwrite (row_numbers (take l.i l.rows)) l.initial.flat)
