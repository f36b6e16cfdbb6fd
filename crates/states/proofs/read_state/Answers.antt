-- `read_state` meets its contract: each way has its law in proofs/Reading.antt. Assumes nothing.
use mathlib.Core.Path.{◌≡◌, refl, sym, ◌∙◌, ap}
use mathlib.Core.List.{[]}
use Prim.Native.Nat.{◌+◌}
use native.Mathlib.Omega.{arith}
use lib.ListN.{length}
use Rattle.terms.specs.Table.{rows_of}
use Rattle.terms.proofs.AcceptedTable.{table_totals}
use Rattle.laws.specs.Lists.{count_up}
use Rattle.linking.specs.inner.Classes.{unlinked}
use Rattle.states.specs.inner.Prefixes.{PrefixTaken}
use Rattle.states.specs.inner.Jobs.{Ready}
use Rattle.states.proofs.Prefixes.{none_taken}
use Rattle.states.proofs.Reading.{lost_row, claimed_most, met_before, other_ties, other_area, is-state, none_read, state_read, prefix_as}
use Rattle.states.proofs.read_state.Goals as goal
use Rattle.states.proofs.read_state.Lts as lts
use Rattle.states.proofs.read_state.Tie as tie
use Rattle.states.proofs.read_state.Reads as reads

-- the equations before the row that is claimed were taken from unlinked sources
before-taken : (d : lts.After-take_on tie.the-claims reads.Pre reads.Post tie.handed_clauses) → Ready d.args.table.now d.args.short.now d.args.widths.now d.args.places.now (length d.args.left.now) (length d.args.right.now) d.args.links.now
    → PrefixTaken (rows_of d.args.table.now) d.in_ok-r.r d.take_on-taken.new.links d.take_on-taken.result.row (0 + d.take_on-taken.result.ties)
before-taken d ready =
    let table = d.args.table.now in
    let kept = d.claimed_row.auto in
    let accepted = ready.placed.numbered.accepted in
    let alone : d.unlink.new.links ≡ unlinked (rows_of table) = d.unlink.ensures (omega (arith, ready.sources, kept.links, (table_totals table accepted).1)) ∙ ap (count_up 0) (kept.links ∙ ready.sources) in
    d.take_on-taken.ensures ready.placed ready.copied (omega (arith, ready.left_room, kept.left)) (omega (arith, ready.right_room, kept.right)) (omega arith)
    (claimed_most table accepted ready.no_lines _ 0 [] _ (sym d.in_ok-r.was ∙ d.claimed_row.ensures ready)) 0 (none_taken (rows_of table) _ alone)

pub returns-in_err-r : goal.returns-in_err-r
returns-in_err-r c =
    λ ready long.
    let table = c.args.table.now in
    none_read (rows_of table) _ _ _ _ _ c.from_residual.ensures (lost_row table ready.placed.numbered.accepted ready.no_lines _ _ _ (sym c.in_err-r.was ∙ c.claimed_row.ensures ready))

pub returns-then-taken-r : goal.returns-then-taken-r
returns-then-taken-r c =
    λ ready long.
    let table = c.args.table.now in
    let accepted = ready.placed.numbered.accepted in
    let claims = sym c.in_ok-r.was ∙ c.claimed_row.ensures ready in
    let taken = before-taken c.before.before.before.before.before.before.before.before.before ready in
    none_read (rows_of table) _ _ _ _ _ refl (met_before table accepted ready.no_lines _ _ _ _ claims _ _ _ taken c.if-taken-r.true)

pub returns-then-taken-job : goal.returns-then-taken-job
returns-then-taken-job c =
    λ ready long.
    let table = c.args.table.now in
    let accepted = ready.placed.numbered.accepted in
    let claims = sym c.in_ok-r.was ∙ c.claimed_row.ensures ready in
    let taken = before-taken c.before.before.before.before.before.before.before.before.before.before.before.before ready in
    none_read (rows_of table) _ _ _ _ _ refl (other_ties table accepted ready.no_lines _ _ _ _ claims _ _ _ taken c.if-taken-r.false (λ e. c.if-taken-job.true (omega (arith, e))))

pub returns-then-is_area : goal.returns-then-is_area
returns-then-is_area c =
    λ ready long.
    let table = c.args.table.now in
    let accepted = ready.placed.numbered.accepted in
    let claims = sym c.in_ok-r.was ∙ c.claimed_row.ensures ready in
    let taken = before-taken c.before.before.before.before.before.before.before.before.before.before.before.before.before.before ready in
    let whole = c.if-taken-r.false in
    let same : 0 + c.take_on-taken.result.ties ≡ c.args.job.ties = omega (arith, c.if-taken-job.false) in
    state_read (rows_of table) _ _ _ _ _ claims (is-state table accepted ready.no_lines _ _ _ _ claims _ _ _ taken whole same (sym c.is_area.ensures ∙ c.if-is_area.true)) (prefix_as _ _ _ _ _ taken whole same)

pub returns-else-is_area : goal.returns-else-is_area
returns-else-is_area c =
    λ ready long.
    let table = c.args.table.now in
    let accepted = ready.placed.numbered.accepted in
    let claims = sym c.in_ok-r.was ∙ c.claimed_row.ensures ready in
    let taken = before-taken c.before.before.before.before.before.before.before.before.before.before.before.before.before.before ready in
    none_read (rows_of table) _ _ _ _ _ refl (other_area table accepted ready.no_lines _ _ _ _ claims _ _ _ taken c.if-taken-r.false (sym c.is_area.ensures ∙ c.if-is_area.false))
