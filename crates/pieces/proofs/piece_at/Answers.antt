-- `piece_at` meets its contract. Assumes nothing.
use mathlib.Core.Path.{◌∙◌, ap₂}
use Prim.Native.Nat.{ℕ}
use borrow.Author.Tests.{lt-ltb, le-ltb}
use Rattle.forms.specs.declared.Piece.{Piece}
use Rattle.pieces.specs.inner.Pieces.{piece_at}
use Rattle.pieces.proofs.piece_at.Goals as goal

pub returns-then-out-i : goal.returns-then-out-i
unfolding piece_at
returns-then-out-i c =
    let p : Piece = c.default.result in
    let e = c.default.ensures in
    rw (le-ltb _ _ c.if-out-i.true)
    (ap₂ (λ (k v : ℕ). record { kind = k; variable = v; high = p.high; low = p.low }) e.0 e.1.0
    ∙ ap₂ (λ (h l : ℕ). record { kind = 0; variable = 0; high = h; low = l }) e.1.1.0 e.1.1.1)

pub returns : goal.returns
unfolding piece_at
returns c = rw (lt-ltb _ _ c.if-out-i.false)
