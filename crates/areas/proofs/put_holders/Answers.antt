-- `put_holders` meets its contract: so many holders stand in front of what was there. Assumes nothing.
use mathlib.Core.Path.{◌≡◌, ◌∙◌, sym, ap}
use mathlib.Core.List.{List}
use Prim.Native.Nat.{ℕ, ◌<◌, min}
use native.Mathlib.Omega.{arith}
use lib.ListN.{length, drop, get_or}
use Rattle.laws.proofs.Buffers.{overwrite_none, write_more}
use Rattle.jobs.specs.Prefix.{host_number}
use Rattle.areas.specs.inner.Areas.{held_by}
use Rattle.areas.proofs.Areas.{held-count, held_at, held_put}
use Rattle.areas.proofs.put_holders.Goals as goal

pub loop-i-init : goal.loop-i-init
loop-i-init c = overwrite_none _

pub loop-i-preserved : goal.loop-i-preserved
loop-i-preserved c =
    let l = c.loop-i in
    let links = c.args.links.now in
    let places = c.of_places-links.ensures in
    let small : l.i < length (drop 2 links) = omega (arith, c.loop-i-test.true, c.min-i-end.ensures, ap length places) in
    write_more (held_by links) _ l.i _ _ (omega (arith, small, held-count links))
    (c.host_number.ensures ∙ ap (λ (s : List ℕ). host_number (get_or s l.i 0)) places ∙ sym (held_at links l.i small)) l.invariant

pub returns : goal.returns
returns c =
    let links = c.args.links.now in
    let whole : c.loop-i.i ≡ min (length (held_by links)) (length c.args.work.now) = omega (arith, c.loop-i.auto.i-end, c.loop-i-test.false, c.min-i-end.ensures, held-count links, ap length c.of_places-links.ensures) in
    c.loop-i.invariant ∙ held_put (held_by links) _ _ whole
