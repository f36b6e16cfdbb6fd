-- `put_bits` meets its contract: when the next bit is below k the form has bits high to k of the number. Assumes nothing.
use mathlib.Core.Path.{◌≡◌}
use mathlib.Core.List.{List}
use Prim.Native.Nat.{◌+◌, ◌-◌, ◌/◌, ◌^◌, ◌≤◌}
use lib.ListN.{length}
use Rattle.laws.specs.Binary.{binary}
use Rattle.terms.specs.declared.Row.{Row}
use Rattle.appender.specs.inner.Append.{Appended}
use Rattle.appender.proofs.put_bits.Given as goal

abbrev pub invariant-loop-k : goal.invariant-loop-k
invariant-loop-k l =
    (length l.out ≡ length l.initial.out) × (l.low ≤ l.high → l.low ≤ l.k)
    × ((t : List Row) → Appended t (binary (l.high + 1 - l.k) (l.number / 2 ^ l.k)) l.n l.initial.out l.m l.out)
