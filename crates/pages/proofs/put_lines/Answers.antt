-- `put_lines` meets its contract: the first lines are written (`LinesPut`). Assumes nothing.
use native.Mathlib.Omega.{arith}
use Rattle.pages.proofs.Making.{lines_first, lines_more, lines_done, lines_none}
use Rattle.pages.proofs.put_lines.Goals as goal

pub returns-then-out-lt-BYTES : goal.returns-then-out-lt-BYTES
returns-then-out-lt-BYTES c = lines_none _ _ _ _ (omega arith)

pub loop-line-init : goal.loop-line-init
loop-line-init c = lines_first _ _ _ _ (omega arith)

pub loop-line-preserved : goal.loop-line-preserved
loop-line-preserved c =
    lines_more _ _ _ _ _ _ _ _ _ _ c.loop-line.invariant c.loop-line-test.true c.line_at-bytes.ensures (c.put_bytes-at.ensures.place, c.put_bytes-at.ensures.bytes)

pub returns : goal.returns
returns c = lines_done _ _ _ _ _ _ _ c.loop-line.invariant (omega (arith, c.loop-line-test.false))
