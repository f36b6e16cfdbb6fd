-- `flatten` meets its contract: the first rows, as many as the buffer holds whole. Assumes nothing.
use Rattle.std.proofs.Common.{rules, ◌≡◌, refl, ◌∙◌, sym, ap, ◌<◌, ◌*◌, ◌/◌, length, ℕ, List}
use native.Mathlib.Omega.{arith}
use lib.ListN.{take}
use Rattle.laws.specs.Buffers.{overwrite}
use Rattle.terms.specs.Table.{row_numbers}
use Rattle.rows.specs.inner.Held.{fitting}
use Rattle.rows.proofs.Held.{fitting_rows, fitting_room, held-fitting, held-length, put_first, put_next}
use Rattle.rows.proofs.flatten.Goals as goal

-- the row is there
there : (n i m room : ℕ) → n ≡ fitting m room → i < n → i < m
there n i m room e h = omega (arith, fitting_rows m room)

-- the buffer holds it
room_for : (n i m room : ℕ) → n ≡ fitting m room → i < n → i < room / 4
room_for n i m room e h = omega (arith, fitting_room m room)

pub loop-i-init : goal.loop-i-init
loop-i-init c = (c.fit-n.ensures, refl, put_first c.args.rows.now c.args.flat.now)

pub offset_bounds-rows-i : goal.offset_bounds-rows-i
offset_bounds-rows-i c =
    let h = there c.fit-n.result c.loop-i.i (length c.args.rows.now) (length c.args.flat.now) c.loop-i.invariant.0 c.loop-i-test.true in
    search rules

pub bounds-rows-i : goal.bounds-rows-i
bounds-rows-i c = there c.fit-n.result c.loop-i.i (length c.args.rows.now) (length c.args.flat.now) c.loop-i.invariant.0 c.loop-i-test.true

pub loop-i-preserved : goal.loop-i-preserved
loop-i-preserved c =
    let k = c.loop-i.invariant in
    let h = there c.fit-n.result c.loop-i.i (length c.args.rows.now) (length c.args.flat.now) k.0 c.loop-i-test.true in
    let r = room_for c.fit-n.result c.loop-i.i (length c.args.rows.now) (length c.args.flat.now) k.0 c.loop-i-test.true in
    (k.0, c.put_row.auto.table ∙ k.1, put_next c.args.rows.now c.args.flat.now _ _ c.loop-i.i h r k.2 c.put_row.ensures)

pub overflow_mul-result : goal.overflow_mul-result
overflow_mul-result c =
    let h = fitting_rows (length c.args.rows.now) (length c.args.flat.now) in
    let e = c.loop-i.invariant.0 in
    search rules

pub returns : goal.returns
returns c =
    let k = c.loop-i.invariant in
    let i : c.loop-i.i ≡ fitting (length c.args.rows.now) (length c.args.flat.now) = omega (arith, k.0, c.loop-i-test.false, c.loop-i.auto.i-end) in
    record {
      count = ap (λ (n : ℕ). n * 4) k.0 ∙ sym (held-length c.args.rows.now (length c.args.flat.now));
      numbers = k.2 ∙ ap (λ (n : ℕ). overwrite (row_numbers (take n c.args.rows.now)) c.args.flat.now) i
          ∙ ap (λ (l : List ℕ). overwrite l c.args.flat.now) (held-fitting c.args.rows.now (length c.args.flat.now));
    }
