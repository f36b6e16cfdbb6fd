-- `fill` meets its contract: each way in which it ends has its law in proofs/Ending.antt. Assumes nothing.
use native.Mathlib.Omega.{arith}
use mathlib.Core.Path.{◌≡◌, sym, ◌∙◌}
use Rattle.maker.proofs.Ending.{stop_count, stop_byte, stop_room, written}
use Rattle.maker.proofs.fill.Goals.{then-fresh-from-via-then-fresh-from, then-fresh-from-via-else-fresh-from+then-not-all_bits}
use Rattle.maker.proofs.fill.Goals as goal

pub returns-then-fresh-from : goal.returns-then-fresh-from
returns-then-fresh-from c s =
    elim c.then-fresh-from.branch [
      | then-fresh-from-via-then-fresh-from w ↦ stop_count _ _ _ _ (c.from.ensures ∙ s.free_are) w.if-fresh-from.true _ c.record.ensures
      | then-fresh-from-via-else-fresh-from+then-not-all_bits w ↦ stop_byte _ _ _ (sym w.all_bits.ensures ∙ w.if-not-all_bits.true) _ c.record.ensures
    ]

pub returns-then-pattern-from : goal.returns-then-pattern-from
returns-then-pattern-from c s =
    stop_room _ _ _ _ (c.from.ensures ∙ s.free_are) c.if-fresh-from.false (sym c.all_bits.ensures ∙ c.if-not-all_bits.false) _
    (c.from-2.ensures ∙ s.bits_are) c.if-pattern-from.true _ c.record-then-pattern-from.ensures

pub returns : goal.returns
returns c s =
    let bits = c.from-2.ensures in
    let free = c.from.ensures in
    let bytes = c.if-fresh-from.false in
    let room = c.if-pattern-from.false in
    let b : c.from-3.result ≡ c.args.found.bits = c.from-3.ensures in
    written _ _ _ _ (free ∙ s.free_are) bytes (sym c.all_bits.ensures ∙ c.if-not-all_bits.false) _ (b ∙ s.bits_are) (omega (arith, bits, b, room)) _ _ c.complete.ensures
    (c.put_rows.ensures _ _ s (bytes ∙ free) (omega (arith, bits, room)))
