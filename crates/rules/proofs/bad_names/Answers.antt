-- `bad_names` meets its contract: rule 14, kind by kind. Assumes nothing.
use mathlib.Core.Path.{◌≡◌, sym, ◌∙◌, ap}
use mathlib.Core.Bool.{true, false}
use mathlib.Core.Logic.{⊎_elim}
use Rattle.terms.specs.Table.{rows_of, by_kind}
use Rattle.terms.specs.Faults.{misnamed, not_term}
use Rattle.rules.proofs.bad_names.Goals as goal

pub returns-in-Variable : goal.returns-in-Variable
unfolding misnamed by_kind
returns-in-Variable c =
    let row = c.args.row in
    ⊎_elim (λ e. let n : row.kind ≡ 0 = rw e at c.requires in rw n) (λ more.
    ⊎_elim (λ e. let n : row.kind ≡ 1 = rw e at c.requires in rw n) (λ e. let n : row.kind ≡ 5 = rw e at c.requires in rw n) more)
    c.in-Variable.is

pub returns-in-Extract : goal.returns-in-Extract
unfolding misnamed by_kind
returns-in-Extract c =
    let n : c.args.row.kind ≡ 3 = rw c.in-Extract.is at c.requires in
    rw n (c.not_term.ensures ∙ ap (not_term (rows_of c.args.table.now) c.args.r) c.into.ensures)

pub returns-then-not_term : goal.returns-then-not_term
unfolding misnamed by_kind
returns-then-not_term c =
    let row = c.args.row in
    let first : not_term (rows_of c.args.table.now) c.args.r row.a ≡ true = ap (not_term (rows_of c.args.table.now) c.args.r) (sym c.into-in-Concat.ensures) ∙ sym c.not_term-in-Concat.ensures ∙ c.if-not_term.true in
    ⊎_elim (λ e. let n : row.kind ≡ 2 = rw e at c.requires in rw (n, first) c.if-not_term.true) (λ e. let n : row.kind ≡ 4 = rw e at c.requires in rw (n, first) c.if-not_term.true) c.in-Concat.is

pub returns-else-not_term : goal.returns-else-not_term
unfolding misnamed by_kind
returns-else-not_term c =
    let row = c.args.row in
    let first : not_term (rows_of c.args.table.now) c.args.r row.a ≡ false = ap (not_term (rows_of c.args.table.now) c.args.r) (sym c.into-in-Concat.ensures) ∙ sym c.not_term-in-Concat.ensures ∙ c.if-not_term.false in
    let second = c.not_term-else-not_term.ensures ∙ ap (not_term (rows_of c.args.table.now) c.args.r) c.into-else-not_term.ensures in
    ⊎_elim (λ e. let n : row.kind ≡ 2 = rw e at c.requires in rw (n, first) second) (λ e. let n : row.kind ≡ 4 = rw e at c.requires in rw (n, first) second) c.in-Concat.is
