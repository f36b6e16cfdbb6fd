-- `differing_words` meets its contract: the bits of the words before place i, and those of the rest, are those of all. Assumes nothing.
use mathlib.Core.Path.{sym, ◌∙◌}
use native.Mathlib.Omega.{arith}
use Rattle.merger.proofs.Words.{words_more, words_end, few_ones}
use Rattle.merger.proofs.differing_words.Goals as goal

pub loop-i-preserved : goal.loop-i-preserved
loop-i-preserved c =
    let i = c.loop-i.i in
    let a = c.args in
    let more = words_more a.sent.now a.received.now i (omega arith) (omega arith) (c.shared_slice_known-in-loop-i-1.given i).fits (c.shared_slice_known-in-loop-i-2-1.given i).fits c.loop-i.bits _ c.differing-bits.ensures in (
      omega (arith, c.differing-bits.ensures, few_ones _ _ (c.shared_slice_known-in-loop-i-1.given i).fits (c.shared_slice_known-in-loop-i-2-1.given i).fits),
      sym more ∙ c.loop-i.invariant.1,
    )

pub returns : goal.returns
returns c = omega (arith, words_end c.args.sent.now c.args.received.now c.loop-i.i c.loop-i-test.false, c.loop-i.invariant.1)
