-- `unused` meets its contract: rule 13, kind by kind. Assumes nothing.
use mathlib.Core.Path.{◌≡◌}
use mathlib.Core.Logic.{⊎_elim}
use borrow.Author.Tests.{ne_eqb}
use Rattle.terms.specs.Table.{by_kind}
use Rattle.terms.specs.Faults.{unused_column}
use Rattle.rules.proofs.unused.Goals as goal

pub returns-then-row-ne0 : goal.returns-then-row-ne0
unfolding unused_column by_kind
returns-then-row-ne0 c = let n : c.args.row.kind ≡ 0 = rw c.in-Variable.is at c.requires in rw (n, ne_eqb _ _ c.if-row-ne0.true)

pub returns-else-row-ne0 : goal.returns-else-row-ne0
unfolding unused_column by_kind
returns-else-row-ne0 c = let n : c.args.row.kind ≡ 0 = rw c.in-Variable.is at c.requires in rw (n, c.if-row-ne0.false)

pub returns-in-Constant : goal.returns-in-Constant
unfolding unused_column by_kind
returns-in-Constant c =
    let row = c.args.row in
    ⊎_elim (λ e. let n : row.kind ≡ 1 = rw e at c.requires in rw n) (λ more.
    ⊎_elim (λ e. let n : row.kind ≡ 2 = rw e at c.requires in rw n) (λ e. let n : row.kind ≡ 5 = rw e at c.requires in rw n) more)
    c.in-Constant.is

pub returns-in-Extract : goal.returns-in-Extract
unfolding unused_column by_kind
returns-in-Extract c =
    let row = c.args.row in
    ⊎_elim (λ e. let n : row.kind ≡ 3 = rw e at c.requires in rw n) (λ e. let n : row.kind ≡ 4 = rw e at c.requires in rw n) c.in-Extract.is
