-- `answer_with` meets its contract: each way has its law in proofs/Trying.antt. Assumes nothing.
use mathlib.Core.Path.{◌≡◌, refl, sym, ◌∙◌, ap}
use Prim.Native.Nat.{ℕ, suc, ◌*◌, ◌≤◌}
use native.Mathlib.Omega.{arith}
use lib.ListN.{length, take}
use mathlib.Core.Bool.{false}
use mathlib.Core.Logic.{⊎_elim}
use borrow.Author.Tests.{eq-eqb, ne_eqb}
use Rattle.laws.proofs.Numbers.{dec_eq}
use Rattle.terms.specs.Table.{rows_of, bits_of}
use Rattle.terms.specs.inner.Placed.{Placed}
use Rattle.terms.proofs.AcceptedTable.{accepted_table, table_bits}
use Rattle.terms.proofs.Rows.{rows_length}
use Rattle.jobs.specs.Call.{breaks43}
use Rattle.states.specs.inner.Jobs.{Ready, StateRead}
use Rattle.steps.proofs.Stepping.{whole_taken, taken_as}
use Rattle.steps.proofs.Trying.{answer_44, past_end, row_read, inside_table, prefix, never_taken, answered_never, answered_row}
use Rattle.stepper.proofs.answer_with.Goals as goal
use Rattle.stepper.proofs.answer_with.Lts as lts
use Rattle.stepper.proofs.answer_with.Tie as tie
use Rattle.stepper.proofs.answer_with.Reads as reads

-- the table was copied, and the job read
ready : (d : lts.After-read_state tie.the-claims reads.Pre reads.Post tie.handed_clauses) → Placed d.args.table.now d.args.widths.now d.args.places.now → breaks43 (rows_of d.args.table.now) ≡ false → d.args.bits ≡ bits_of (rows_of d.args.table.now) → length d.args.links.now ≡ suc (suc d.args.bits)
    → Ready d.args.table.now (take d.copy-len.result d.copy-len.new.short) d.args.widths.now d.args.places.now 4096 4096 d.args.links.now
ready d placed plain wide many =
    let table = d.args.table.now in
    let it = accepted_table table placed.numbered.accepted in
    record {
      placed = placed;
      copied = d.copy-len.ensures.rows placed.numbered.accepted (omega (arith, it.few, it.whole, rows_length table));
      no_lines = plain;
      left_room = omega arith;
      right_room = omega arith;
      sources = many ∙ ap (λ (n : ℕ). suc (suc n)) wide;
    }

read : (d : lts.After-read_state tie.the-claims reads.Pre reads.Post tie.handed_clauses) → Placed d.args.table.now d.args.widths.now d.args.places.now → breaks43 (rows_of d.args.table.now) ≡ false → d.args.bits ≡ bits_of (rows_of d.args.table.now) → length d.args.links.now ≡ suc (suc d.args.bits) → 16384 ≤ length d.args.work.now
    → StateRead (rows_of d.args.table.now) d.args.job.next d.args.job.ties d.args.work.now d.read_state.new.links d.read_state.result
read d placed plain wide many long = d.read_state.ensures (ready d placed plain wide many) long

pub returns-in_default : goal.returns-in_default
returns-in_default c =
    λ many placed plain wide long room.
    let table = c.args.table.now in
    let accepted = placed.numbered.accepted in
    answer_44 table accepted plain _ _ _ (past_end table accepted plain _ _ _ _ _ (read c.before.before.before.before.before.before.before placed plain wide many long) c.in_default.is) _ _ c.record.ensures

pub returns : goal.returns
returns c =
    λ many placed plain wide long room.
    let table = c.args.table.now in
    let next = c.args.job.next in
    let accepted = placed.numbered.accepted in
    let S = row_read table accepted plain _ _ _ _ _ _ c.in-Some.is (read c.before.before.before.before.before.before.before.before.before.before.before.before.before.before placed plain wide many long) in
    let kept = c.read_state.auto in
    let row = c.answer_row-row.ensures in
    let fits : c.args.bits * 6 ≤ length c.args.answer.now = omega (arith, wide, table_bits table accepted, room) in
    ⊎_elim
    (λ e.
    answered_never table accepted plain _ _ _ _ _ S e _ _ _
    (c.answer_taken.ensures accepted wide (omega (arith, kept.left)) fits table
    (taken_as (sym (row ∙ rw (eq-eqb next 1000 e) refl)) refl (never_taken table accepted plain _ _ _ _ _ S e))))
    (λ n.
    answered_row table accepted plain _ _ _ _ _ S n _ _ _
    (c.answer_taken.ensures accepted wide (omega (arith, kept.left)) fits _
    (taken_as (sym (row ∙ rw (ne_eqb next 1000 n) (sym (rows_length table)))) refl (whole_taken table accepted plain _ (inside_table table accepted plain _ _ _ _ _ S) _ _ (prefix table accepted plain _ _ _ _ _ S)))))
    (dec_eq next 1000)
