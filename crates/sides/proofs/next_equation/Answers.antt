-- `next_equation` meets its contract: what is left to search says what the whole search says. Assumes nothing.
use Rattle.terms.proofs.NextEquation.{next_found, next_more, next_end}
use Rattle.terms.specs.declared.Row.{Row}
use native.Mathlib.Omega.{arith}
use mathlib.Core.Logic.{⊎_elim}
use Rattle.laws.proofs.Numbers.{lt_or_le}
use mathlib.Core.Path.{◌≡◌, sym, ◌∙◌, ap}
use Rattle.sides.proofs.next_equation.Goals as goal

pub returns-then-row_at-eq-EQUATION : goal.returns-then-row_at-eq-EQUATION
returns-then-row_at-eq-EQUATION c = next_found _ _ _ c.loop-r-test.true (sym (ap (λ (r : Row). r.kind) c.row_at.ensures) ∙ c.if-row_at-eq-EQUATION.true) ∙ c.loop-r.invariant

pub loop-r-preserved : goal.loop-r-preserved
loop-r-preserved c =
    next_more _ _ _ c.loop-r-test.true (λ e. c.if-row_at-eq-EQUATION.false (ap (λ (r : Row). r.kind) c.row_at.ensures ∙ e))
    ∙ c.loop-r.invariant

pub returns : goal.returns
returns c =
    let a = c.args in
    let l = c.loop-r in
    ⊎_elim
    (λ f. let e : c.max.result ≡ l.r = omega (arith, f, c.max.ensures, c.loop-r-test.false, l.auto.r) in e ∙ next_end _ _ _ c.loop-r-test.false ∙ l.invariant)
    (λ f. let e : c.max.result ≡ a.from = omega (arith, f, c.max.ensures) in e ∙ next_end _ _ _ f)
    (lt_or_le a.from a.rows)
