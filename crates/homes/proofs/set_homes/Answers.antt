-- `set_homes` meets its contract: the invariant is `Setting`, of proofs/Setting.antt. Assumes nothing.
use Rattle.homes.proofs.Setting.{setting_first, setting_more, setting_done}
use Rattle.homes.proofs.set_homes.Goals as goal

pub loop-i-init : goal.loop-i-init
loop-i-init c = setting_first _ _ _

pub loop-i-preserved : goal.loop-i-preserved
loop-i-preserved c =
    let h = c.set_home-seen in
    setting_more _ _ _ _ _ _ _ c.loop-i.invariant c.loop-i-test.true _ c.from.ensures _ c.row_at-row.ensures _ _ h.auto.answer h.auto.firsts _ h.ensures

pub returns : goal.returns
returns c = setting_done _ _ _ _ _ _ _ c.loop-i.invariant c.loop-i-test.false
