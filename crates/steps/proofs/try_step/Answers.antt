-- `try_step` meets its contract: each way has its law in proofs/Trying.antt. Assumes nothing.
use mathlib.Core.Path.{◌≡◌, ◌∙◌, ap}
use mathlib.Core.Bool.{false}
use Prim.Native.Nat.{ℕ, suc, ◌≤◌}
use native.Mathlib.Omega.{arith}
use lib.ListN.{length, take}
use Rattle.terms.specs.Table.{rows_of, bits_of}
use Rattle.terms.specs.inner.Placed.{Placed}
use Rattle.terms.proofs.AcceptedTable.{accepted_table}
use Rattle.terms.proofs.Rows.{rows_length}
use Rattle.jobs.specs.Call.{breaks43}
use Rattle.states.specs.inner.Jobs.{Ready, StateRead}
use Rattle.steps.proofs.Trying.{refused_44, past_end, row_read, inside_table, prefix, never_taken, tried_never, refused_45, tried_step}
use Rattle.steps.proofs.try_step.Goals as goal
use Rattle.steps.proofs.try_step.Lts as lts
use Rattle.steps.proofs.try_step.Tie as tie
use Rattle.steps.proofs.try_step.Reads as reads

-- the table was copied, and the job read
ready : (d : lts.After-read_state tie.the-claims reads.Pre reads.Post tie.handed_clauses) → Placed d.args.table.now d.args.widths.now d.args.places.now → breaks43 (rows_of d.args.table.now) ≡ false → d.args.bits ≡ bits_of (rows_of d.args.table.now) → length d.args.links.now ≡ suc (suc d.args.bits)
    → Ready d.args.table.now (take d.copy-len.result d.copy-len.new.short) d.args.widths.now d.args.places.now 4096 4096 d.args.links.now
ready d placed plain wide many =
    let table = d.args.table.now in
    let it = accepted_table table placed.numbered.accepted in
    record {
      placed = placed;
      copied = d.copy-len.ensures.rows placed.numbered.accepted (omega (arith, it.few, it.whole, rows_length table));
      no_lines = plain;
      left_room = omega arith;
      right_room = omega arith;
      sources = many ∙ ap (λ (n : ℕ). suc (suc n)) wide;
    }

read : (d : lts.After-read_state tie.the-claims reads.Pre reads.Post tie.handed_clauses) → Placed d.args.table.now d.args.widths.now d.args.places.now → breaks43 (rows_of d.args.table.now) ≡ false → d.args.bits ≡ bits_of (rows_of d.args.table.now) → length d.args.links.now ≡ suc (suc d.args.bits) → 16384 ≤ length d.args.work.now
    → StateRead (rows_of d.args.table.now) d.args.job.next d.args.job.ties d.args.work.now d.read_state.new.links d.read_state.result
read d placed plain wide many long = d.read_state.ensures (ready d placed plain wide many) long

pub returns-in_default : goal.returns-in_default
returns-in_default c =
    λ placed plain wide long many.
    let table = c.args.table.now in
    let accepted = placed.numbered.accepted in
    refused_44 table accepted plain _ _ _ (past_end table accepted plain _ _ _ _ _ (read c.before.before.before.before.before.before.before placed plain wide many long) c.in_default.is) _ _ c.record.ensures

pub returns-then-job-eq-NEVER : goal.returns-then-job-eq-NEVER
returns-then-job-eq-NEVER c =
    λ placed plain wide long many.
    let table = c.args.table.now in
    let accepted = placed.numbered.accepted in
    let S = row_read table accepted plain _ _ _ _ _ _ c.in-Some.is (read c.before.before.before.before.before.before.before.before.before.before.before.before placed plain wide many long) in
    tried_never table accepted plain _ _ _ _ _ S c.if-job-eq-NEVER.true _ _ (c.conclude-found.ensures accepted wide table (never_taken table accepted plain _ _ _ _ _ S c.if-job-eq-NEVER.true)).record_is

pub returns-then-rows-r : goal.returns-then-rows-r
returns-then-rows-r c =
    λ placed plain wide long many.
    let table = c.args.table.now in
    let accepted = placed.numbered.accepted in
    let S = row_read table accepted plain _ _ _ _ _ _ c.in-Some.is (read c.before.before.before.before.before.before.before.before.before.before placed plain wide many long) in
    refused_45 table accepted plain _ _ _ _ _ S c.if-job-eq-NEVER.false
    (omega (arith, c.if-rows-r.true, rows_length table, inside_table table accepted plain _ _ _ _ _ S)) _ _ c.record-then-rows-r.ensures

pub returns : goal.returns
returns c =
    λ placed plain wide long many.
    let table = c.args.table.now in
    let accepted = placed.numbered.accepted in
    let S = row_read table accepted plain _ _ _ _ _ _ c.in-Some.is (read c.before.before.before.before.before.before.before.before.before.before.before.before.before.before.before.before.before.before placed plain wide many long) in
    let kept = c.read_state.auto in
    let again = ready c.before.before.before.before.before.before.before.before.before.before.before.before.before.before.before.before.before.before placed plain wide many in
    tried_step table accepted plain _ _ _ _ _ S c.if-job-eq-NEVER.false (omega (arith, c.if-rows-r.false, rows_length table)) _ _ _ _
    (c.step_from.ensures (record { placed = placed; copied = again.copied; no_lines = plain; left_room = omega (arith, kept.left); right_room = omega (arith, kept.right); sources = kept.links ∙ again.sources }) wide (prefix table accepted plain _ _ _ _ _ S))
