-- `take_pair` meets its contract: the words laid side by side, tested, and the bits in which they differ. Assumes nothing.
use native.Mathlib.Omega.{arith}
use Rattle.recordings.proofs.Differing.{words_most}
use Rattle.merger.proofs.Words.{pair_made}
use Rattle.merger.proofs.take_pair.Goals as goal

pub overflow_add-ties : goal.overflow_add-ties
overflow_add-ties c =
    omega (arith, c.requires.countable.bits, c.requires.countable.few, c.requires.sent_len_bound, c.differing_words.ensures, words_most c.args.sent.now c.args.received.now)

pub returns : goal.returns
returns c =
    pair_made _ _ _ _ _ _ _ _ _ _ c.lay.ensures c.meets-meets.ensures c.differing_words.ensures c.one_more.ensures c.first_of.ensures
