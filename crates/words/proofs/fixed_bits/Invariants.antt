-- `fixed_bits` meets its contract: a bit more of the mask and of the value at each turn. Assumes nothing.
use Rattle.words.proofs.FixedRows.{Upto}
use Rattle.words.proofs.fixed_bits.Given as goal

abbrev pub invariant-loop-q : goal.invariant-loop-q
invariant-loop-q l = Upto l.links l.v l.q l.mask l.value
