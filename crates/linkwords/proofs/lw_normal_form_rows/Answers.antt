-- `lw_normal_form_rows` meets its contract: what it says of the rows that are copied it says of all. Assumes nothing.
use Rattle.std.proofs.Common.{◌≡◌, ◌∙◌, ap, List, ℕ, length, replicate}
use lib.ListN.{length-replicate}
use Rattle.forms.specs.Call.{form_record, form_after}
use Rattle.linkwords.proofs.RowsHeld.{was_copied, form_record_of_all, form_after_of_all}
use Rattle.linkwords.proofs.lw_normal_form_rows.Goals as goal

pub slice_bounds-flat-end : goal.slice_bounds-flat-end
slice_bounds-flat-end c = (was_copied c.args.rows.now (replicate 2052 0) c.flatten-used.new.flat c.flatten-used.result (length-replicate {A = ℕ} 2052 0) c.flatten-used.ensures.count c.flatten-used.ensures.numbers).within

pub slice_bounds-normal_form-end : goal.slice_bounds-normal_form-end
slice_bounds-normal_form-end c = (was_copied c.args.rows.now (replicate 2052 0) c.flatten-used.new.flat c.flatten-used.result (length-replicate {A = ℕ} 2052 0) c.flatten-used.ensures.count c.flatten-used.ensures.numbers).long

pub returns : goal.returns
returns c =
    let k = (was_copied c.args.rows.now (replicate 2052 0) c.flatten-used.new.flat c.flatten-used.result (length-replicate {A = ℕ} 2052 0) c.flatten-used.ensures.count c.flatten-used.ensures.numbers).part in
    record {
      «record» = c.normal_form.ensures.«record» ∙ ap (λ (t : List ℕ). form_record t c.args.row (length c.args.form.now)) k
          ∙ form_record_of_all c.args.rows.now c.args.row (length c.args.form.now);
      form = c.normal_form.ensures.form ∙ ap (λ (t : List ℕ). form_after t c.args.row c.args.form.now) k ∙ form_after_of_all c.args.rows.now c.args.row c.args.form.now;
    }
