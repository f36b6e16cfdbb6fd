-- `shorten` meets its contract: the invariant is `Shortening`, of proofs/Shortening.antt. Assumes nothing.
use Rattle.copies.proofs.Shortening.{Shortening}
use Rattle.copies.proofs.shorten.Given as goal

abbrev pub invariant-loop-r : goal.invariant-loop-r
invariant-loop-r l = Shortening l.table l.initial.short l.short l.r
