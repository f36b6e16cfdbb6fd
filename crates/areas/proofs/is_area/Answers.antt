-- `is_area` meets its contract: each way has its law in proofs/Areas.antt. Assumes nothing.
use mathlib.Core.Path.{◌≡◌, ◌∙◌, ap, sym}
use mathlib.Core.Bool.{Bool, true, ◌&&◌}
use Prim.Native.Nat.{ℕ, ◌-◌, ◌≤◌}
use native.Mathlib.Omega.{arith}
use lib.ListN.{length, drop, length-drop}
use lib.Seq.{take_all}
use borrow.Author.Tests.{lt-leb}
use Rattle.laws.proofs.Bools.{not_both}
use Rattle.areas.specs.inner.Areas.{held_by, agree, all_zero}
use Rattle.areas.proofs.Areas.{held-count, too_short, area_is}
use Rattle.areas.proofs.is_area.Goals as goal
use Rattle.areas.proofs.is_area.Goals.{then-n-work, else-n-work}

pub returns-then-holders_differ-eq0 : goal.returns-then-holders_differ-eq0
returns-then-holders_differ-eq0 c =
    let links = c.args.links.now in
    let work = c.args.work.now in
    let n : length c.of_places-n.result.now ≡ length (held_by links) = ap length c.of_places-n.ensures ∙ sym (held-count links) in
    elim c.if-n-work.branch [
      | then-n-work w ↦
          let long : length (held_by links) ≤ length work = omega (arith, w.if-n-work.true, n) in
          let first : agree (held_by links) work ≡ true = sym w.holders_differ.ensures ∙ sym w.value-is ∙ c.if-holders_differ-eq0.true in
          c.bits_together.ensures
          ∙ ap all_zero (take_all (length work - length c.of_places-n.result.now) (drop (length c.of_places-n.result.now) work) (omega (arith, length-drop (length c.of_places-n.result.now) work)))
          ∙ ap (λ (k : ℕ). all_zero (drop k work)) n
          ∙ sym (area_is (held_by links) work long ∙ ap (λ (b : Bool). b && all_zero (drop (length (held_by links)) work)) first)
      | else-n-work w ↦ absurd (not_both c.if-holders_differ-eq0.true (w.value-is ∙ lt-leb _ _ w.if-n-work.false))
    ]

pub returns-else-holders_differ-eq0 : goal.returns-else-holders_differ-eq0
returns-else-holders_differ-eq0 c =
    let links = c.args.links.now in
    let work = c.args.work.now in
    let n : length c.of_places-n.result.now ≡ length (held_by links) = ap length c.of_places-n.ensures ∙ sym (held-count links) in
    c.if-holders_differ-eq0.false
    ∙ elim c.if-n-work.branch [
      | then-n-work w ↦
          let long : length (held_by links) ≤ length work = omega (arith, w.if-n-work.true, n) in
          sym (area_is (held_by links) work long ∙ ap (λ (b : Bool). b && all_zero (drop (length (held_by links)) work)) (sym w.holders_differ.ensures ∙ sym w.value-is ∙ c.if-holders_differ-eq0.false))
      | else-n-work w ↦ sym (too_short (held_by links) work (omega (arith, w.if-n-work.false, n)))
    ]
