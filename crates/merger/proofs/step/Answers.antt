-- `step` meets its contract: the pair at the offsets, and the records that are passed behind it. Assumes nothing.
use mathlib.Core.Path.{sym, ◌∙◌}
use Rattle.merger.proofs.Passing.{taken_few, taken_sent, taken_received, sent_down, received_down}
use Rattle.merger.proofs.step.Goals as goal
use Rattle.merger.proofs.step.Goals.{then-not-climbs-via-then-not-climbs, then-not-climbs-via-else-not-climbs+then-not-climbs-2}

pub climbs-requires : goal.climbs-requires
climbs-requires c =
    (taken_few _ _ _ _ c.requires.stepping _ _ c.take_pair-taken.ensures).0

pub climbs-requires-else-not-climbs : goal.climbs-requires-else-not-climbs
climbs-requires-else-not-climbs c =
    (taken_few _ _ _ _ c.requires.stepping _ _ c.take_pair-taken.ensures).1

pub seek-requires : goal.seek-requires
seek-requires c =
    let p = c.requires.stepping in
    let e = c.take_pair-taken.ensures in
    record { k_bound = p.few_words; sent_len_bound = p.sent_short; received_len_bound = p.received_short; tested = taken_sent _ _ _ _ p _ _ e (sym c.climbs.ensures ∙ c.if-not-climbs.false); tested_2 = taken_received _ _ _ _ p _ _ e (sym c.climbs-else-not-climbs.ensures ∙ c.if-not-climbs-2.false) }

pub returns-then-not-climbs : goal.returns-then-not-climbs
returns-then-not-climbs c =
    let p = c.requires.stepping in
    let e = c.take_pair-taken.ensures in
    elim c.then-not-climbs.branch [
      | then-not-climbs-via-then-not-climbs w ↦ sent_down _ _ _ _ p _ _ e (sym c.climbs.ensures ∙ w.if-not-climbs.true)
      | then-not-climbs-via-else-not-climbs+then-not-climbs-2 w ↦ received_down _ _ _ _ p _ _ e (sym w.climbs-else-not-climbs.ensures ∙ w.if-not-climbs-2.true)
    ]
