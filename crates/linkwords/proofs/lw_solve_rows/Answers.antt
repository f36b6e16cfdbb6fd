-- `lw_solve_rows` meets its contract: what it says of the rows that are copied it says of all. Assumes nothing.
use Rattle.std.proofs.Common.{◌≡◌, ◌∙◌, ap, List, ℕ, length, replicate}
use lib.ListN.{length-replicate}
use Rattle.answers.specs.Solve.{solve_record, answer_after, work_after}
use Rattle.linkwords.proofs.RowsHeld.{was_copied, solve_record_of_all, answer_after_of_all, work_after_of_all}
use Rattle.linkwords.proofs.lw_solve_rows.Goals as goal

pub slice_bounds-flat-end : goal.slice_bounds-flat-end
slice_bounds-flat-end c = (was_copied c.args.rows.now (replicate 2052 0) c.flatten-used.new.flat c.flatten-used.result (length-replicate {A = ℕ} 2052 0) c.flatten-used.ensures.count c.flatten-used.ensures.numbers).within

pub slice_bounds-solve-end : goal.slice_bounds-solve-end
slice_bounds-solve-end c = (was_copied c.args.rows.now (replicate 2052 0) c.flatten-used.new.flat c.flatten-used.result (length-replicate {A = ℕ} 2052 0) c.flatten-used.ensures.count c.flatten-used.ensures.numbers).long

pub returns : goal.returns
returns c =
    let k = (was_copied c.args.rows.now (replicate 2052 0) c.flatten-used.new.flat c.flatten-used.result (length-replicate {A = ℕ} 2052 0) c.flatten-used.ensures.count c.flatten-used.ensures.numbers).part in
    record {
      «record» = c.solve.ensures.«record» ∙ ap (λ (t : List ℕ). solve_record t (length c.args.answer.now) (length c.args.work.now)) k
          ∙ solve_record_of_all c.args.rows.now (length c.args.answer.now) (length c.args.work.now);
      answer = c.solve.ensures.answer ∙ ap (λ (t : List ℕ). answer_after t c.args.answer.now (length c.args.work.now)) k
          ∙ answer_after_of_all c.args.rows.now c.args.answer.now (length c.args.work.now);
      work = c.solve.ensures.work ∙ ap (λ (t : List ℕ). work_after t (length c.args.answer.now) c.args.work.now) k
          ∙ work_after_of_all c.args.rows.now (length c.args.answer.now) c.args.work.now;
    }
