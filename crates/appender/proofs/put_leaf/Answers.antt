-- `put_leaf` meets its contract: the bits of a value, or one piece. Assumes nothing.
use mathlib.Core.Path.{sym, ◌∙◌, ap}
use mathlib.Core.List.{[], ◌∷◌}
use Rattle.forms.specs.declared.Piece.{Piece}
use Rattle.appender.proofs.Appending.{appended_push}
use Rattle.appender.proofs.put_leaf.Goals as goal

pub returns : goal.returns
returns c t sources l bits piece =
    appended_push t sources _
    (piece c.if-r-eq-VALUE.false ∙ ap (λ (p : Piece). p ∷ []) (sym c.leaf_piece.ensures))
    _ _ _ _ c.push.ensures.count c.push.ensures.numbers
