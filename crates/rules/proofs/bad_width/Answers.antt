-- `bad_width` meets its contract: rule 15, kind by kind. Assumes nothing.
use mathlib.Core.Path.{◌≡◌, sym, ◌∙◌}
use mathlib.Core.Bool.{or-false}
use mathlib.Core.Logic.{⊎_elim}
use Rattle.terms.specs.Table.{by_kind}
use Rattle.terms.specs.Faults.{wrong_width}
use Rattle.rules.proofs.bad_width.Goals as goal

pub returns-in-Variable : goal.returns-in-Variable
unfolding wrong_width by_kind
returns-in-Variable c =
    let row = c.args.row in
    ⊎_elim (λ e. let n : row.kind ≡ 0 = rw e at c.requires in rw n c.outside.ensures) (λ more.
    ⊎_elim (λ e. let n : row.kind ≡ 2 = rw e at c.requires in rw n c.outside.ensures) (λ e. let n : row.kind ≡ 5 = rw e at c.requires in rw (n, or-false) c.outside.ensures) more)
    c.in-Variable.is

pub returns-then-outside : goal.returns-then-outside
unfolding wrong_width by_kind
returns-then-outside c =
    let n : c.args.row.kind ≡ 1 = rw c.in-Constant.is at c.requires in
    let o = sym c.outside-in-Constant.ensures ∙ c.if-outside.true in
    rw (n, o) c.if-outside.true

pub returns-else-outside : goal.returns-else-outside
unfolding wrong_width by_kind
returns-else-outside c =
    let n : c.args.row.kind ≡ 1 = rw c.in-Constant.is at c.requires in
    let o = sym c.outside-in-Constant.ensures ∙ c.if-outside.false in
    rw (n, o)

pub returns-in-Extract : goal.returns-in-Extract
unfolding wrong_width by_kind
returns-in-Extract c =
    let row = c.args.row in
    ⊎_elim (λ e. let n : row.kind ≡ 3 = rw e at c.requires in rw n) (λ e. let n : row.kind ≡ 4 = rw e at c.requires in rw n) c.in-Extract.is
