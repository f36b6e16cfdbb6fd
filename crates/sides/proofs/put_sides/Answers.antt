-- `put_sides` meets its contract: the laws are those of proofs/EquationPairs.antt. Assumes nothing.
use mathlib.Core.Path.{sym, ◌∙◌, ap, ap₂}
use Prim.Native.Nat.{ℕ, max}
use lib.ListN.{get_or}
use Rattle.terms.specs.declared.Row.{Row}
use Rattle.terms.specs.Table.{rows_of, source_of, evened}
use Rattle.terms.specs.Faults.{absent}
use Rattle.laws.specs.Buffers.{overwrite}
use Rattle.forms.specs.Form.{form_from, numbers_of}
use Rattle.sides.proofs.EquationPairs.{no_sides, left_there, right_there, both_sides}
use Rattle.sides.proofs.put_sides.Goals as goal

pub returns-then-row-ne-EQUATION : goal.returns-then-row-ne-EQUATION
returns-then-row-ne-EQUATION c =
    λ ready inside roomₗ roomᵣ.
    no_sides _ _ _ ready _ inside _ _ (λ e. c.if-row-ne-EQUATION.true (ap (λ (r : Row). r.kind) c.row_at-row.ensures ∙ e))

pub returns : goal.returns
returns c =
    λ ready inside roomₗ roomᵣ.
    let a = c.args in
    let rows = rows_of a.table.now in
    let read = c.row_at-row.ensures in
    let e = sym (ap (λ (r : Row). r.kind) read) ∙ c.if-row-ne-EQUATION.false in
    let ea = c.from-a.ensures ∙ ap (λ (r : Row). r.a) read in
    let eb = c.from-b.ensures ∙ ap (λ (r : Row). r.b) read in
    let left_in = ap (absent rows) ea ∙ left_there _ _ _ ready _ inside e in
    let right_in = ap (absent rows) eb ∙ right_there _ _ _ ready _ inside e in
    let left = c.side_form.ensures ready left_in right_in roomₗ in
    let right = c.side_form-2.ensures ready right_in left_in roomᵣ in
    both_sides _ _ _ ready _ inside e _ _ _ _ _
    (left ∙ ap₂ (λ (x y : ℕ). overwrite (numbers_of (form_from rows (evened (source_of rows x) (source_of rows y)))) a.left.now) ea eb)
    (right ∙ ap₂ (λ (x y : ℕ). overwrite (numbers_of (form_from rows (evened (source_of rows y) (source_of rows x)))) a.right.now) ea eb)
    (c.from.ensures ∙ c.max-width.ensures ∙ ap₂ max c.load.ensures c.load-2.ensures
    ∙ ap₂ (λ (x y : ℕ). max (get_or a.widths.now x 0) (get_or a.widths.now y 0)) ea eb)
