-- `claimed_row` meets its contract: each way has its law in proofs/Reading.antt. Assumes nothing.
use mathlib.Core.Path.{◌≡◌, sym, ◌∙◌, ap, subst}
use Prim.Native.Nat.{ℕ, ◌+◌}
use native.Mathlib.Omega.{arith}
use lib.ListN.{length}
use Rattle.terms.specs.Table.{rows_of, next_equation}
use Rattle.terms.proofs.AcceptedTable.{table_totals}
use Rattle.terms.proofs.Rows.{rows_length}
use Rattle.laws.specs.Lists.{count_up}
use Rattle.states.specs.inner.Jobs.{Ready}
use Rattle.states.specs.inner.Prefixes.{PrefixTaken}
use Rattle.linking.specs.inner.Classes.{unlinked}
use Rattle.states.proofs.Prefixes.{none_taken}
use Rattle.states.proofs.Reading.{claims_never, claims_no_never, claims_past, claims_row, claims_none}
use Rattle.states.proofs.claimed_row.Goals as goal
use Rattle.states.proofs.claimed_row.Lts as lts
use Rattle.states.proofs.claimed_row.Tie as tie
use Rattle.states.proofs.claimed_row.Reads as reads

-- all equations were taken from unlinked sources
all-taken : (d : lts.After-take_on tie.the-claims reads.Pre reads.Post) → Ready d.args.table.now d.args.short.now d.args.widths.now d.args.places.now (length d.args.left.now) (length d.args.right.now) d.args.links.now
    → PrefixTaken (rows_of d.args.table.now) (length (rows_of d.args.table.now)) d.take_on-taken.new.links d.take_on-taken.result.row (0 + d.take_on-taken.result.ties)
all-taken d ready =
    let table = d.args.table.now in
    let alone : d.unlink.new.links ≡ unlinked (rows_of table) = d.unlink.ensures (omega (arith, ready.sources, (table_totals table ready.placed.numbered.accepted).1)) ∙ ap (count_up 0) ready.sources in
    let all = sym (rows_length table) in
    subst (λ (n : ℕ). PrefixTaken (rows_of table) n d.take_on-taken.new.links d.take_on-taken.result.row (0 + d.take_on-taken.result.ties)) all
    (d.take_on-taken.ensures ready.placed ready.copied ready.left_room ready.right_room (omega arith) (omega (arith, all)) 0 (none_taken (rows_of table) _ alone))

pub returns-then-taken-rows : goal.returns-then-taken-rows
returns-then-taken-rows c =
    λ ready.
    let table = c.args.table.now in
    claims_never table ready.placed.numbered.accepted _ c.if-next-eq-NEVER.true _ _ _ (all-taken c.before.before.before.before.before.before.before.before.before ready) (omega (arith, c.if-taken-rows.true, rows_length table))

pub returns-else-taken-rows : goal.returns-else-taken-rows
returns-else-taken-rows c =
    λ ready.
    let table = c.args.table.now in
    claims_no_never table ready.placed.numbered.accepted _ c.if-next-eq-NEVER.true _ _ _ (all-taken c.before.before.before.before.before.before.before.before.before ready) (omega (arith, c.if-taken-rows.false, rows_length table))

pub returns-then-rows-r : goal.returns-then-rows-r
returns-then-rows-r c =
    λ ready.
    let table = c.args.table.now in
    claims_past table ready.placed.numbered.accepted _ c.if-next-eq-NEVER.false (omega (arith, c.if-rows-r.true, rows_length table))

pub returns-then-next_equation-r : goal.returns-then-next_equation-r
returns-then-next_equation-r c =
    λ ready.
    let table = c.args.table.now in
    let all = rows_length table in
    claims_row table ready.placed.numbered.accepted _ c.if-next-eq-NEVER.false (omega (arith, c.if-rows-r.false, all))
    (ap (next_equation (rows_of table) _) all ∙ sym c.next_equation.ensures ∙ c.if-next_equation-r.true)

pub returns-else-next_equation-r : goal.returns-else-next_equation-r
returns-else-next_equation-r c =
    λ ready.
    let table = c.args.table.now in
    let all = rows_length table in
    claims_none table ready.placed.numbered.accepted _ c.if-next-eq-NEVER.false (omega (arith, c.if-rows-r.false, all))
    (λ e. c.if-next_equation-r.false (c.next_equation.ensures ∙ ap (next_equation (rows_of table) _) (sym all) ∙ e))
