-- `bit` calls itself at an earlier row.
use Rattle.evaluator.proofs.+bit.Given as goal

abbrev pub decreases-bit : goal.decreases-bit
decreases-bit l = l.row
