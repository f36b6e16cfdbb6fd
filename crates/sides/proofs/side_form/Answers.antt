-- `side_form` meets its contract: what it writes is in proofs/FormSources.antt. Assumes nothing.
use mathlib.Core.Path.{◌∙◌, ap₂}
use Prim.Native.Nat.{◌-◌}
use native.Mathlib.Omega.{arith}
use Rattle.sides.proofs.FormSources.{side-written}
use Rattle.sides.proofs.side_form.Goals as goal

pub returns : goal.returns
returns c =
    λ ready there there' room.
    let lacking = c.saturating_sub-lacking.ensures ∙ ap₂ ◌-◌ c.load.ensures c.load-own.ensures in
    let zeros = c.put_fill-zeros.ensures _ (omega arith) in
    let own = c.put_form.ensures ready there in
    side-written _ _ _ ready _ there _ there' _ _ _ _ _ _ lacking zeros own room
