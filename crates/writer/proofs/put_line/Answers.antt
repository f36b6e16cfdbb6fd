-- `put_line` meets its contract: the line's bytes are written, all of the array where the length is past it. Assumes nothing.
use mathlib.Core.Path.{subst}
use mathlib.Core.List.{List}
use Prim.Native.Nat.{ℕ}
use native.Mathlib.Omega.{arith}
use lib.ListN.{length}
use Rattle.sheets.specs.Print.{shown}
use Rattle.sheets.proofs.Printed.{PutIn}
use Rattle.writer.proofs.Lines.{taken}
use Rattle.writer.proofs.put_line.Goals as goal

pub returns : goal.returns
returns c =
    let a = c.args in
    let p = c.put_bytes in
    let q : PutIn (length (shown a.line)) a.out.now a.at (shown a.line) p.new.out p.result =
    subst (λ (x : List ℕ). PutIn (length x) a.out.now a.at x p.new.out p.result) (taken a.line _ (omega arith) c.min-len.ensures) (p.ensures.place, p.ensures.bytes) in
    record { place = q.0; bytes = q.1 }
