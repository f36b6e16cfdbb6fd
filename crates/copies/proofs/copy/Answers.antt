-- `copy` meets its contract: both passes over the buffer, of proofs/Copying.antt. Assumes nothing.
use mathlib.Core.Path.{◌≡◌, ap, ◌∙◌}
use Prim.Native.Nat.{ℕ, ◌≤◌}
use native.Mathlib.Omega.{arith}
use lib.ListN.{length, take}
use Rattle.terms.specs.Table.{rows_of}
use Rattle.copies.specs.inner.Shortened.{shortened}
use Rattle.copies.proofs.Copying.{copied}
use Rattle.copies.proofs.copy.Goals as goal

pub returns : goal.returns
returns c =
    let h = c.shorten in
    let n = c.min-len.result in
    let fits : n ≤ length h.new.short = omega (arith, c.min-len.ensures, h.auto.short) in
    record {
      within = omega (arith, fits, h.auto.short);
      rows = λ accepted room.
          let made = h.ensures.rows accepted room in
          let all : n ≡ h.result = omega (arith, c.min-len.ensures, made.0, room, h.auto.short) in
          let shorts : rows_of (take n h.new.short) ≡ shortened (rows_of c.args.table.now) = ap (λ (m : ℕ). rows_of (take m h.new.short)) all ∙ made.1 in
          copied h.new.short c.leave_off_revised.new.table n fits c.leave_off_revised.auto.table _ accepted (all ∙ made.0) shorts c.leave_off_revised.ensures;
    }
