-- `bad_bounds` meets its contract: rule 16, kind by kind. Assumes nothing.
use Rattle.terms.specs.Table.{by_kind}
use Rattle.terms.specs.Faults.{wrong_bounds}
use Rattle.terms.proofs.RowKinds.{each_kind}
use mathlib.Core.Path.{refl}
use native.Mathlib.Omega.{arith}
use borrow.Author.Tests.{lt-ltb, le-ltb, le-leb, ne_eqb}
use Rattle.rules.proofs.bad_bounds.Goals as goal

pub returns-then-width-from : goal.returns-then-width-from
unfolding wrong_bounds by_kind
returns-then-width-from c =
    rw (c.if-row-eq-EXTRACT.true, le-ltb c.args.row.b c.args.width (omega (arith, c.from.ensures, c.if-width-from.true)), le-leb _ _ c.if-width-from.true)

pub returns-else-width-from : goal.returns-else-width-from
unfolding wrong_bounds by_kind
returns-else-width-from c =
    rw (c.if-row-eq-EXTRACT.true, lt-ltb c.args.row.b c.args.width (omega (arith, c.from.ensures, c.if-width-from.false)))

pub returns-else-row-eq-EXTRACT : goal.returns-else-row-eq-EXTRACT
unfolding wrong_bounds
returns-else-row-eq-EXTRACT c =
    rw (ne_eqb _ _ c.if-row-eq-EXTRACT.false)
    (each_kind c.args.row.kind _ (λ h. refl) (λ h. refl) (λ h. refl) (λ h. absurd (c.if-row-eq-EXTRACT.false h)) (λ h. refl) (λ h. refl))
