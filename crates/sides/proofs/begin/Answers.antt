-- `begin` meets its contract, kind by kind. Assumes nothing.
use mathlib.Core.Path.{◌∙◌, ap}
use Prim.Native.Nat.{ℕ, ◌-◌}
use lib.ListN.{get_or}
use Rattle.pieces.specs.inner.Pieces.{piece_at}
use Rattle.sides.proofs.Reading.{begin_fill, begin_part}
use Rattle.sides.proofs.begin.Goals as goal

pub returns-then-p-lt2 : goal.returns-then-p-lt2
returns-then-p-lt2 c = begin_fill _ _ _ _ (c.piece_at-p.ensures ∙ ap (piece_at c.args.form.now) c.from.ensures) c.if-p-lt2.true

pub returns : goal.returns
returns c =
    begin_part _ _ _ _ (c.piece_at-p.ensures ∙ ap (piece_at c.args.form.now) c.from.ensures) c.if-p-lt2.false _ _
    (c.saturating_sub.ensures ∙ ap (λ (x : ℕ). x - c.piece_at-p.result.high) (c.load-low.ensures ∙ ap (λ (v : ℕ). get_or c.args.lows.now v 0) c.from-2.ensures))
    c.saturating_sub-2.ensures
