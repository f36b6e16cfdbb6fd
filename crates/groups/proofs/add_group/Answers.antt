-- `add_group` meets its contract, for a row that was found and for a new one. Assumes nothing.
use native.Mathlib.Omega.{arith}
use mathlib.Core.Path.{◌≡◌, sym, ◌∙◌, ap}
use Prim.Native.Nat.{ℕ, ◌+◌, ◌*◌}
use lib.ListN.{get_or, set}
use Rattle.std.proofs.lemmas.Nat.{or_comm}
use Rattle.groups.proofs.Keys.{found_row, found_none}
use Rattle.groups.proofs.Groups.{added_there, added_new}
use Rattle.groups.proofs.add_group.Goals as goal

pub bounds-plan-from : goal.bounds-plan-from
bounds-plan-from c =
    let a = c.args in
    omega (arith, c.requires.in_bounds, c.requires.count_bound, c.from.ensures, (found_row a.plan.now a.group.x a.group.y a.group.shift a.from a.count c.in-Some.g (sym c.in-Some.is ∙ c.find_group.ensures)).low)

pub bounds-plan-from-in-Some : goal.bounds-plan-from-in-Some
bounds-plan-from-in-Some c =
    let a = c.args in
    omega (arith, c.requires.in_bounds, c.requires.count_bound, c.from.ensures, (found_row a.plan.now a.group.x a.group.y a.group.shift a.from a.count c.in-Some.g (sym c.in-Some.is ∙ c.find_group.ensures)).low)

pub returns-in-Some : goal.returns-in-Some
returns-in-Some c =
    let a = c.args in
    let f = found_row a.plan.now a.group.x a.group.y a.group.shift a.from a.count c.in-Some.g (sym c.in-Some.is ∙ c.find_group.ensures) in
    let at : c.from.result ≡ c.in-Some.g = c.from.ensures in
    rw at (added_there _ _ _ _ _ _ _ _ c.in-Some.g _ f.row f.past f.low (omega arith) (omega arith) (ap (λ (m : ℕ). set a.plan.now (4 * c.in-Some.g + 263) m) (or_comm (get_or a.plan.now (4 * c.in-Some.g + 263) 0) a.group.mask)))

pub returns-in-None : goal.returns-in-None
returns-in-None c =
    let a = c.args in
    let none = found_none a.plan.now a.group.x a.group.y a.group.shift a.from a.count (sym c.in-None.is ∙ c.find_group.ensures) in
    added_new _ _ _ _ _ _ _ _ _ none (omega (arith, c.from-in-None.ensures)) (omega (arith, c.from-in-None.ensures)) c.store_four.ensures
