-- `put_pieces` meets its contract: the lines of the first i pieces are put. Assumes nothing.
use mathlib.Core.Path.{refl, ◌∙◌}
use Rattle.details.proofs.Printing.{no_pieces, one_piece_more}
use Rattle.details.proofs.put_pieces.Goals as goal

pub loop-i-init : goal.loop-i-init
loop-i-init c = let z = no_pieces c.args.out.now c.args.at c.args.form.now in (refl, z.0, z.1)

pub loop-i-preserved : goal.loop-i-preserved
loop-i-preserved c =
    let l = c.loop-i in
    let a = c.args in
    let more = one_piece_more a.out.now a.at a.form.now l.i l.out l.behind _ _ _ _ l.invariant.0 l.invariant.1 l.invariant.2 c.piece_at-p.ensures c.four_values-line.ensures c.put_line-behind.ensures.place c.put_line-behind.ensures.bytes in
    (c.put_line-behind.auto.out ∙ l.invariant.0, more.0, more.1)
