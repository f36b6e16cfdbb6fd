-- At row r the measure of a form function is 3 · r + 1 and that of `put_part` 3 · r + 2; that of `put_join` is 3 · r + 3, where r is the later of
-- its parts' rows. What a row names is earlier, so the row number falls from each form function's call to the next.
use Rattle.std.proofs.Common.{◌+◌, ◌*◌, max}
use Rattle.appender.proofs.+normalizing.Given as goal

abbrev pub decreases-put_cut : goal.decreases-put_cut
decreases-put_cut l = 3 * l.row + 1

abbrev pub decreases-put_row : goal.decreases-put_row
decreases-put_row l = 3 * l.row + 1

abbrev pub decreases-put_join : goal.decreases-put_join
decreases-put_join l = 3 * max l.left.row l.right.row + 3

abbrev pub decreases-put_part : goal.decreases-put_part
decreases-put_part l = 3 * l.part.row + 2
