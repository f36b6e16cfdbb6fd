-- `lw_value_rows` meets its contract: what it says of the rows that are copied it says of all. Assumes nothing.
use Rattle.std.proofs.Common.{◌≡◌, ◌∙◌, ap, List, ℕ, length, replicate}
use lib.ListN.{length-replicate}
use Rattle.terms.specs.Value.{value_record, value_after}
use Rattle.linkwords.proofs.RowsHeld.{was_copied, value_record_of_all, value_after_of_all}
use Rattle.linkwords.proofs.lw_value_rows.Goals as goal

pub slice_bounds-flat-end : goal.slice_bounds-flat-end
slice_bounds-flat-end c = (was_copied c.args.rows.now (replicate 2052 0) c.flatten-used.new.flat c.flatten-used.result (length-replicate {A = ℕ} 2052 0) c.flatten-used.ensures.count c.flatten-used.ensures.numbers).within

pub slice_bounds-value-end : goal.slice_bounds-value-end
slice_bounds-value-end c = (was_copied c.args.rows.now (replicate 2052 0) c.flatten-used.new.flat c.flatten-used.result (length-replicate {A = ℕ} 2052 0) c.flatten-used.ensures.count c.flatten-used.ensures.numbers).long

pub returns : goal.returns
returns c =
    let k = (was_copied c.args.rows.now (replicate 2052 0) c.flatten-used.new.flat c.flatten-used.result (length-replicate {A = ℕ} 2052 0) c.flatten-used.ensures.count c.flatten-used.ensures.numbers).part in
    record {
      «record» = c.value.ensures.«record» ∙ ap (λ (t : List ℕ). value_record t c.args.row c.args.pattern.now (length c.args.value.now)) k
          ∙ value_record_of_all c.args.rows.now c.args.row c.args.pattern.now (length c.args.value.now);
      value = c.value.ensures.output ∙ ap (λ (t : List ℕ). value_after t c.args.row c.args.pattern.now c.args.value.now) k
          ∙ value_after_of_all c.args.rows.now c.args.row c.args.pattern.now c.args.value.now;
    }
