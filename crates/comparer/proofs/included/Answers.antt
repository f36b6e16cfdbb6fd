-- `included` meets its contract: the sources so far agree. Assumes nothing.
use mathlib.Core.Path.{refl, sym, ◌∙◌, ap}
use Prim.Native.Nat.{ℕ}
use native.Mathlib.Omega.{arith}
use lib.ListN.{get_or}
use Rattle.laws.specs.Lists.{below}
use Rattle.comparer.proofs.Comparing.{source_differs, source_agrees, sources_agree}
use Rattle.comparer.proofs.included.Goals as goal

pub loop-s-init : goal.loop-s-init
loop-s-init c = unfold below in refl

pub returns-then-load : goal.returns-then-load
returns-then-load c =
    let read = c.load-in-loop-s.ensures ∙ ap (λ (i : ℕ). get_or c.args.h.now i 0) (c.from-other.ensures ∙ c.load.ensures) in
    sym (source_differs c.args.h.now c.args.g.now c.args.bits c.loop-s.s (omega (arith, c.loop-s-test.true)) (λ e. c.if-load.true (read ∙ e ∙ sym c.load-in-loop-s-2.ensures)))

pub loop-s-preserved : goal.loop-s-preserved
loop-s-preserved c =
    let read = c.load-in-loop-s.ensures ∙ ap (λ (i : ℕ). get_or c.args.h.now i 0) (c.from-other.ensures ∙ c.load.ensures) in
    source_agrees c.args.h.now c.args.g.now c.args.bits c.loop-s.s (omega (arith, c.loop-s-test.true)) c.loop-s.invariant (sym read ∙ c.if-load.false ∙ c.load-in-loop-s-2.ensures)

pub returns : goal.returns
returns c = sym (sources_agree c.args.h.now c.args.g.now c.args.bits c.loop-s.s (omega (arith, c.loop-s-test.false, c.loop-s.auto.s-end)) c.loop-s.invariant)
