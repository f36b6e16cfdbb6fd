-- `put_bytes` meets its contract: nothing is written without room; else the bytes are copied. Assumes nothing.
use mathlib.Core.Path.{◌∙◌, refl, ap}
use mathlib.Core.List.{List}
use Prim.Native.Nat.{ℕ, ◌+◌, ◌-◌, ◌<◌, ◌≤◌}
use native.Mathlib.Omega.{arith}
use lib.ListN.{length}
use borrow.Rule.Slice.PartMut.{put_mid}
use Rattle.sheets.proofs.Printed.{put_none, put_in}
use Rattle.writer.proofs.Lines.{copied}
use Rattle.writer.proofs.put_bytes.Goals.{then-out-at-via-then-out-at, then-out-at-via-else-out-at+then-out-at-2}
use Rattle.writer.proofs.put_bytes.Goals as goal

pub returns-then-out-at : goal.returns-then-out-at
returns-then-out-at c =
    let a = c.args in
    let short : length a.out.now < a.at + length a.bytes.now =
    elim c.then-out-at.branch [
      | then-out-at-via-then-out-at w ↦ omega (arith, w.if-out-at.true)
      | then-out-at-via-else-out-at+then-out-at-2 w ↦ omega (arith, w.if-out-at.false, w.if-out-at-2.true)
    ] in
    let p = put_none _ a.out.now a.at a.bytes.now short in
    record { place = p.0; bytes = p.1 }

pub returns : goal.returns
returns c =
    let a = c.args in
    let k = a.at + length a.bytes.now - a.at in
    let room : a.at + length a.bytes.now ≤ length a.out.now = omega (arith, c.if-out-at.false, c.if-out-at-2.false) in
    let p = put_in _ a.out.now a.at a.bytes.now _ _ room
    (record { place = refl; content = ap (λ (l : List ℕ). put_mid a.at k a.out.now l) c.copy_from_slice.ensures.after ∙ copied a.out.now a.bytes.now a.at k (omega arith) room }) in
    record { place = p.0; bytes = p.1 }
