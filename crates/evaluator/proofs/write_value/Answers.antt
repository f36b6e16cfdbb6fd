-- `write_value` meets its contract: i bits of the value are written. Assumes nothing.
use Rattle.evaluator.proofs.Bits.{value_wide}
use Rattle.laws.proofs.Buffers.{write_more, write_all}
use Rattle.laws.specs.Buffers.{overwrite}
use Rattle.terms.specs.Table.{rows_of, value_of}
use lib.ListN.{length-set}
use native.Mathlib.Omega.{arith}
use mathlib.Core.Path.{refl, ◌∙◌}
use Rattle.evaluator.proofs.write_value.Goals as goal

pub loop-i-init : goal.loop-i-init
unfolding overwrite
loop-i-init c = (refl, refl)

pub loop-i-preserved : goal.loop-i-preserved
loop-i-preserved c =
    let a = c.args in
    let w = c.from-i-end.ensures ∙ c.requires.ready.placed.numbered.widths_are _ c.requires.term.there in
    let n = value_wide _ _ _ _ c.requires.ready _ c.requires.term in (
      simp length-set c.loop-i.invariant.0,
      write_more (value_of (rows_of a.table.now) a.pattern.now a.row) a.output.now _ _ _ (omega (arith, c.loop-i-test.true, w, n)) c.bit.ensures c.loop-i.invariant.1,
    )

pub returns : goal.returns
returns c =
    let a = c.args in
    let w = c.from-i-end.ensures ∙ c.requires.ready.placed.numbered.widths_are _ c.requires.term.there in
    let n = value_wide _ _ _ _ c.requires.ready _ c.requires.term in
    write_all (value_of (rows_of a.table.now) a.pattern.now a.row) a.output.now c.loop-i.i _ (omega (arith, n, w, c.loop-i-test.false)) c.loop-i.invariant.1
