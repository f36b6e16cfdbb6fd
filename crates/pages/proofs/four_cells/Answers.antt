-- `four_cells` meets its contract (`four-put`). Assumes nothing.
use native.Mathlib.Omega.{arith}
use Rattle.pages.proofs.Lines.{four-put}
use Rattle.pages.proofs.four_cells.Goals as goal

pub returns : goal.returns
returns c =
    let a = c.args in
    four-put a.first a.second a.third a.fourth (omega (arith, c.well_formed)) (omega (arith, c.well_formed)) (omega (arith, c.well_formed)) (omega (arith, c.well_formed))
    _ _ _ _ _ _ _ _ (c.put_bytes-one.ensures.place, c.put_bytes-one.ensures.bytes) (c.put_bytes-two.ensures.place, c.put_bytes-two.ensures.bytes) (c.put_bytes-three.ensures.place, c.put_bytes-three.ensures.bytes) (c.put_bytes.ensures.place, c.put_bytes.ensures.bytes)
