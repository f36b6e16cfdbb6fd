-- `compare_with` meets its contract: where it stops, or both tables compared. Assumes nothing.
use mathlib.Core.Path.{refl, ap, ◌∙◌}
use Prim.Native.Nat.{ℕ}
use lib.ListN.{replicate}
use native.Mathlib.Omega.{arith}
use Rattle.terms.proofs.AcceptedTable.{table_bits}
use Rattle.comparer.proofs.Stops.{bits_alike, ends_compared}
use Rattle.comparer.proofs.compare_with.Goals as goal

pub compare_placed-found-requires : goal.compare_placed-found-requires
compare_placed-found-requires c =
    record { bits_bound = omega (arith, c.from-bits.ensures ∙ c.load.ensures ∙ c.requires.placed.bits_are, table_bits _ c.requires.placed.numbered.accepted); in_bounds = c.requires.in_bounds_2 }

pub returns : goal.returns
returns c =
    let P = c.requires.placed in
    let S = c.in_ok-stop_at.ensures in
    let b = c.from-bits.ensures ∙ c.load.ensures ∙ P.bits_are in
    let e = bits_alike _ _ c.args.work.now P.numbered.accepted S.0 S.1 c.requires.in_bounds_2 _ b in
    let found = c.compare_placed-found in
    let k = ends_compared _ _ c.args.work.now P.numbered.accepted S.0 S.1 c.requires.in_bounds_2 _ (found.ensures P c.requires.in_bounds S.0 b e) _ (rw c.complete.ensures refl)
    _ (c.fill.ensures.after (λ y h. h) ∙ ap (λ (n : ℕ). replicate n 0) found.auto.work) in
    record { «record» = k.0; work = k.1 }
