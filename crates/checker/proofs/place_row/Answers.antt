-- `place_row` meets its contract: a variable, and any other row. Assumes nothing.
use mathlib.Core.Path.{◌∙◌, ap, ap₂}
use mathlib.Core.List.{List}
use Prim.Native.Nat.{ℕ, ◌+◌, ◌%◌}
use lib.ListN.{set}
use Rattle.checker.proofs.Placing.{placed_variable, placed_other}
use Rattle.checker.proofs.place_row.Goals as goal

pub returns-then-row-eq-VARIABLE : goal.returns-then-row-eq-VARIABLE
returns-then-row-eq-VARIABLE c =
    let a = c.args in
    let number = c.narrow.ensures ∙ ap (λ (n : ℕ). n % 65536) c.saturating_sub.ensures in
    let first = c.store.ensures ∙ ap (set a.places.now a.r) number in
    c.store-then-row-eq-VARIABLE.ensures
    ∙ ap₂ (λ (l : List ℕ) (x : ℕ). set l (512 + a.variables) x) first c.narrow-then-row-eq-VARIABLE.ensures
    ∙ placed_variable a.places.now a.r a.row a.variables a.bits c.if-row-eq-VARIABLE.true

pub returns-else-row-eq-VARIABLE : goal.returns-else-row-eq-VARIABLE
returns-else-row-eq-VARIABLE c =
    let a = c.args in
    c.store-else-row-eq-VARIABLE.ensures ∙ ap (set a.places.now a.r) c.narrow-else-row-eq-VARIABLE.ensures
    ∙ placed_other a.places.now a.r a.row a.variables a.bits c.if-row-eq-VARIABLE.false
