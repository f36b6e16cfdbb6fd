-- `put_fixed_row` meets its contract: a row behind those that are there, or none. Assumes nothing.
use native.Mathlib.Omega.{arith}
use Rattle.words.proofs.FixedRows.{row_stored, counted_one}
use Rattle.words.proofs.put_fixed_row.Goals as goal

pub returns : goal.returns
returns c =
    let a = c.args in
    record {
      fixed_row_put = row_stored a.links.now a.v a.n a.plan.now _ c.fixed_bits-row.result.mask c.fixed_bits-row.result.value c.narrow.result c.fixed_bits-row.ensures
          (omega arith) (omega arith) c.narrow.ensures c.store_four.ensures;
      counted = counted_one a.links.now a.v a.n a.plan.now c.fixed_bits-row.result.mask c.fixed_bits-row.result.value c.fixed_bits-row.ensures (λ e. omega arith);
    }
