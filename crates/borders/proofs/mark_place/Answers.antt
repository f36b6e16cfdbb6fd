-- `mark_place` meets its contract. Assumes nothing.
use Rattle.borders.proofs.Steps.{place_lowest, place_alike, place_unlike}
use Rattle.borders.proofs.mark_place.Goals as goal
use Rattle.borders.proofs.mark_place.Goals.{else-low-k-via-then-low-k+else-beside, else-low-k-via-else-low-k}

pub returns-then-beside : goal.returns-then-beside
returns-then-beside c =
    place_unlike _ _ _ _ _ _ _ _ c.from.ensures c.load-r.ensures c.saturating_sub-low.ensures _ _ c.beside.ensures c.beside-then-low-k.ensures c.if-beside.true
    _ _ c.from-then-beside.ensures c.store.ensures

pub returns-else-low-k : goal.returns-else-low-k
returns-else-low-k c =
    elim c.else-low-k.branch [
      | else-low-k-via-then-low-k+else-beside w ↦
          place_alike _ _ _ _ _ _ _ _ c.from.ensures c.load-r.ensures c.saturating_sub-low.ensures _ _ w.beside.ensures w.beside-then-low-k.ensures w.if-beside.false
      | else-low-k-via-else-low-k w ↦ place_lowest _ _ _ _ _ _ _ _ c.from.ensures c.load-r.ensures c.saturating_sub-low.ensures w.if-low-k.false
    ]
