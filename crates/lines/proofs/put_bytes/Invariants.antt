-- `put_bytes` meets its contract: the bytes before an index are pushed. Assumes nothing.
use mathlib.Core.Path.{◌≡◌}
use lib.ListN.{drop}
use Rattle.lines.specs.inner.Push.{push_all}
use Rattle.lines.proofs.put_bytes.Given as goal

abbrev pub invariant-loop-byte : goal.invariant-loop-byte
invariant-loop-byte l = push_all l.line (drop l.byte-index l.bytes) ≡ push_all l.initial.line l.bytes
