-- `take_on` meets its contract: each way has its law in proofs/Prefixes.antt. Assumes nothing.
use Prim.Native.Nat.{ℕ, ◌≤◌}
use native.Mathlib.Omega.{arith}
use lib.ListN.{length, take, drop}
use Rattle.terms.specs.Table.{rows_of}
use Rattle.terms.specs.inner.Placed.{Placed}
use Rattle.answers.specs.Pairs.{equation_pairs}
use Rattle.classes.specs.inner.Links.{roots_of}
use Rattle.copies.specs.inner.Copies.{Copied}
use Rattle.taking.specs.inner.Equations.{EquationsTaken}
use Rattle.states.specs.inner.Prefixes.{PrefixTaken}
use Rattle.copies.proofs.Copying.{copy-count, copy-placed}
use Rattle.sides.proofs.Prepared.{prepared_of}
use Rattle.states.proofs.Prefixes.{held-copy, table_taken, settled_on, met_on}
use Rattle.states.proofs.take_on.Goals as goal
use Rattle.states.proofs.take_on.Lts as lts
use Rattle.states.proofs.take_on.Tie as tie
use Rattle.states.proofs.take_on.Reads as reads

-- the equations of the copy were taken, which are those of the table
taken : (d : lts.After-take_equations tie.the-claims reads.Pre reads.Post tie.handed_clauses) → Placed d.args.table.now d.args.widths.now d.args.places.now
    → Copied d.args.table.now d.args.short.now
    → 4096 ≤ length d.args.left.now → 4096 ≤ length d.args.right.now
    → d.args.from ≤ d.args.to → d.args.to ≤ length (rows_of d.args.table.now)
    → (before : ℕ) → PrefixTaken (rows_of d.args.table.now) d.args.from d.args.links.now d.args.from before
    → EquationsTaken (rows_of d.args.table.now) (roots_of d.args.links.now) d.args.from d.args.to
    (drop d.args.from (take d.args.to (equation_pairs (rows_of d.args.table.now))))
    d.take_equations-taken.new.links d.take_equations-taken.result.row d.take_equations-taken.result.ties
taken d placed copied left right forth inside before P =
    let table = d.args.table.now in
    let short = d.args.short.now in
    let accepted = placed.numbered.accepted in
    table_taken table short accepted copied _ _ _ _ _ _
    (d.take_equations-taken.ensures.classes (prepared_of short _ _ _ (copy-placed table short accepted copied _ _ placed) d.min-lows.ensures) left right forth
    (omega (arith, inside, copy-count table short accepted copied)) (held-copy table short accepted copied _ (omega (arith, forth, inside)) _ before P))

pub returns-then-taken-to : goal.returns-then-taken-to
returns-then-taken-to c =
    λ placed copied left right forth inside before P.
    settled_on _ _ (omega (arith, forth, inside)) _ before P _ forth _ _ _ (taken c.before.before.before.before.before.before.before.before.before.before.before.before.before placed copied left right forth inside before P) c.if-taken-to.true _ c.settle.ensures

pub returns-else-taken-to : goal.returns-else-taken-to
returns-else-taken-to c =
    λ placed copied left right forth inside before P.
    met_on _ _ (omega (arith, forth, inside)) _ before P _ forth _ _ _ (taken c.before.before.before.before.before.before.before.before.before placed copied left right forth inside before P) c.if-taken-to.false _
