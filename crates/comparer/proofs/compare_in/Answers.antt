-- `compare_in` meets its contract: the links of both tables, one after the other, and both directions. Assumes nothing.
use mathlib.Core.Path.{◌≡◌, ◌∙◌, ap}
use mathlib.Core.List.{List, ◌++◌}
use Prim.Native.Nat.{ℕ, ◌+◌, ◌-◌, ◌≤◌}
use native.Mathlib.Omega.{arith}
use lib.ListN.{length, drop, replicate, length-replicate}
use lib.Seq.{length-take-le}
use Rattle.laws.proofs.Buffers.{overwrite-length}
use Rattle.checker.proofs.Checking.{fault_found}
use Rattle.comparer.proofs.Comparing.{links-compared, front_room, front, front_copied, rest_room, from_fronts}
use Rattle.comparer.proofs.compare_in.Goals as goal

pub returns : goal.returns
returns g c =
    λ P room ag b e.
    let n : ℕ = c.args.bits + 2 in
    let zeros : List ℕ = replicate {A = ℕ} g.row.LINKS 0 in
    let never = c.link-never in
    let none = c.link-none in
    let fit : n ≤ length zeros = omega (arith, c.requires, length-replicate {A = ℕ} g.row.LINKS 0) in
    let list : List ℕ = never.new.links ++ drop n zeros in
    let listed : n ≤ length list = front_room n zeros never.new.links fit never.auto.links in
    let within : length c.copy.new.table ≡ length c.args.work.now = ap length c.copy.ensures ∙ overwrite-length _ never.new.form ∙ never.auto.form in
    let p = c.check_and_place in
    let Q = p.ensures.placed (p.ensures.fault ∙ fault_found _ _ room ∙ ag) P.places_room in
    let L = never.ensures P (omega (arith, c.requires)) (length-take-le n zeros fit ∙ omega (arith, b)) in
    let M = none.ensures Q (omega (arith, rest_room n c.copy.new.table, within, c.requires)) (length-take-le n list listed ∙ omega (arith, e)) in
    from_fronts _ _ _ _ _ _ _ _ _
    (front_copied n zeros never.new.links fit never.auto.links never.new.form _ (omega (arith, c.requires, never.auto.form)) c.copy.ensures (length c.copy.new.table - n) none.new.form)
    (front n list none.new.links listed none.auto.links) c.compare_links.ensures
    (links-compared _ _ P.numbered.accepted ag _ _ _ _ L M _ b e)
