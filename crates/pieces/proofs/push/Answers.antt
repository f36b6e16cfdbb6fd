-- `push` meets its contract. Assumes nothing.
use Rattle.pieces.specs.inner.Pieces.{piece_at, put_piece, merged_in, meets_last, pushed_count, pushed_numbers}
use Rattle.forms.specs.Form.{meets}
use Rattle.forms.specs.declared.Piece.{Piece}
use borrow.Author.Tests.{lt-ltb, le-ltb}
use native.Mathlib.Omega.{arith}
use Prim.Native.Nat.{◌-◌}
use mathlib.Core.Bool.{true, false}
use mathlib.Core.Path.{◌≡◌, sym, ◌∙◌, ap}
use Rattle.pieces.proofs.push.Goals as goal

pub returns-then-out-n : goal.returns-then-out-n
unfolding pushed_count pushed_numbers
returns-then-out-n c =
    let full = le-ltb _ _ c.if-out-n.true in
    record { count = rw full; numbers = rw full }

pub returns-then-n-eq0 : goal.returns-then-n-eq0
unfolding pushed_count pushed_numbers meets_last
returns-then-n-eq0 c =
    let room = lt-ltb _ _ c.if-out-n.false in
    let first = c.if-n-eq0.true in
    record { count = rw (room, first); numbers = rw (room, first) c.put_piece.ensures }

pub returns-then-meet : goal.returns-then-meet
unfolding pushed_count pushed_numbers meets_last
returns-then-meet c =
    let a = c.args in
    let room = lt-ltb _ _ c.if-out-n.false in
    let some = lt-ltb 0 a.n (omega arith) in
    let last = c.piece_at-last.ensures in
    let yes : meets (piece_at a.out.now (a.n - 1)) a.q ≡ true =
    ap (λ (p : Piece). meets p a.q) (sym last) ∙ sym c.meet.ensures ∙ c.if-meet.true in
    record { count = rw (room, some, yes); numbers = rw (room, some, yes) (c.put_piece-then-meet.ensures ∙ ap (put_piece a.out.now (a.n - 1)) (c.merge.ensures ∙ ap (λ (p : Piece). merged_in p a.q) last)) }

pub returns : goal.returns
unfolding pushed_count pushed_numbers meets_last
returns c =
    let a = c.args in
    let room = lt-ltb _ _ c.if-out-n.false in
    let some = lt-ltb 0 a.n (omega arith) in
    let last = c.piece_at-last.ensures in
    let apart : meets (piece_at a.out.now (a.n - 1)) a.q ≡ false =
    ap (λ (p : Piece). meets p a.q) (sym last) ∙ sym c.meet.ensures ∙ c.if-meet.false in
    record { count = rw (room, some, apart); numbers = rw (room, some, apart) c.put_piece-2.ensures }
