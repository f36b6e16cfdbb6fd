-- `put_row`, `put_cut`, `put_join` and `put_part` meet their contracts. What each way through the code appends is a law of
-- proofs/FormCases.antt. Assumes nothing.
use Rattle.std.proofs.Common.{ℕ, ◌-◌, refl, sym, ap, ◌∙◌}
use native.Mathlib.Omega.{arith}
use Rattle.appender.specs.declared.Part.{Part}
use Rattle.appender.proofs.FormCases.{form_leaf, form_first_later, form_second_later, form_cut, form_join, cut_leaf, cut_first_later, cut_second_later, cut_of_cut, cut_of_join, left_row, right_row, both_parts, part_none, part_whole, part_cut}
use Rattle.appender.proofs.+normalizing.Goals as goal

pub put_row-returns-then-leaf : goal.put_row-returns-then-leaf
put_row-returns-then-leaf t c =
    form_leaf _ _ _ _ _ c.row_at-r.ensures _ _ _ _ (sym c.leaf.ensures ∙ c.if-leaf.true) _ _ c.load-v.ensures
    (c.saturating_sub-high.ensures ∙ ap (λ (w : ℕ). w - 1) c.load.ensures) c.put_leaf.ensures

pub put_row-returns-then-row-a : goal.put_row-returns-then-row-a
put_row-returns-then-row-a t c =
    form_first_later _ _ _ _ _ c.row_at-r.ensures _ _ _ _ (sym c.leaf.ensures ∙ c.if-leaf.false) _ c.from-a.ensures c.if-row-a.true

pub put_row-returns-then-r-eq-EXTRACT : goal.put_row-returns-then-r-eq-EXTRACT
put_row-returns-then-r-eq-EXTRACT t c =
    form_cut _ _ _ _ _ c.row_at-r.ensures _ _ _ _ c.if-r-eq-EXTRACT.true _ refl c.put_cut.ensures

pub put_row-returns-then-row-b : goal.put_row-returns-then-row-b
put_row-returns-then-row-b t c =
    form_second_later _ _ _ _ _ c.row_at-r.ensures _ _ _ _ (sym c.leaf.ensures ∙ c.if-leaf.false) c.if-r-eq-EXTRACT.false _ c.from-b.ensures c.if-row-b.true

pub put_row-returns : goal.put_row-returns
put_row-returns t c =
    form_join _ _ _ _ _ c.row_at-r.ensures _ _ _ _ (sym c.leaf.ensures ∙ c.if-leaf.false) c.if-r-eq-EXTRACT.false _ _ c.from-a.ensures c.from-b.ensures
    _ _ c.put_row-m.ensures c.put_row.ensures

pub put_cut-returns-then-leaf : goal.put_cut-returns-then-leaf
put_cut-returns-then-leaf t c =
    cut_leaf _ _ _ _ _ c.from-place.ensures _ c.row_at-r.ensures _ _ _ _ (sym c.leaf.ensures ∙ c.if-leaf.true) _ c.load-v.ensures c.put_leaf.ensures

pub put_cut-returns-then-place-a : goal.put_cut-returns-then-place-a
put_cut-returns-then-place-a t c =
    cut_first_later _ _ _ _ _ c.from-place.ensures _ c.row_at-r.ensures _ _ _ _ (sym c.leaf.ensures ∙ c.if-leaf.false) _ c.from-a.ensures c.if-place-a.true

pub put_cut-returns-then-r-eq-EXTRACT : goal.put_cut-returns-then-r-eq-EXTRACT
put_cut-returns-then-r-eq-EXTRACT t c =
    cut_of_cut _ _ _ _ _ c.from-place.ensures _ c.row_at-r.ensures _ _ _ _ c.if-r-eq-EXTRACT.true _ _ refl refl _ refl c.put_cut.ensures

pub put_cut-returns-then-place-b : goal.put_cut-returns-then-place-b
put_cut-returns-then-place-b t c =
    cut_second_later _ _ _ _ _ c.from-place.ensures _ c.row_at-r.ensures _ _ _ _ (sym c.leaf.ensures ∙ c.if-leaf.false) c.if-r-eq-EXTRACT.false _ c.from-b.ensures c.if-place-b.true

pub put_cut-put_join-requires : goal.put_cut-put_join-requires
put_cut-put_join-requires t c = (
  omega (
    arith,
    ap (λ (p : Part). p.row) c.left_bits-left.ensures ∙ left_row _ _ _ _,
    ap (λ (p : Part). p.row) c.right_bits-right.ensures ∙ right_row _ _ _,
    c.from-a.ensures,
    c.if-place-a.false,
    c.from-b.ensures,
    c.if-place-b.false,
    c.from-place.ensures,
    c.decreases,
  ),
  tt,
)

pub put_cut-returns : goal.put_cut-returns
put_cut-returns t c =
    cut_of_join _ _ _ _ _ c.from-place.ensures _ c.row_at-r.ensures _ _ _ _ (sym c.leaf.ensures ∙ c.if-leaf.false) c.if-r-eq-EXTRACT.false
    _ _ _ _ c.from-a.ensures c.from-b.ensures c.load.ensures c.load-width.ensures _ _ c.left_bits-left.ensures c.right_bits-right.ensures c.put_join.ensures

pub put_join-returns : goal.put_join-returns
put_join-returns t c = both_parts _ _ _ _ _ _ _ _ _ _ _ c.put_part-m.ensures c.put_part.ensures

pub put_part-returns-then-width-eq0 : goal.put_part-returns-then-width-eq0
put_part-returns-then-width-eq0 t c = part_none _ _ _ _ _ _ c.if-width-eq0.true

pub put_part-returns-then-saturating_sub-width : goal.put_part-returns-then-saturating_sub-width
put_part-returns-then-saturating_sub-width t c =
    part_whole _ _ _ _ _ _ _ _ c.if-width-eq0.false (sym c.saturating_sub.ensures ∙ c.if-saturating_sub-width.true) _ c.from.ensures c.put_row.ensures

pub put_part-returns : goal.put_part-returns
put_part-returns t c = part_cut _ _ _ _ _ _ _ _ c.if-width-eq0.false _ refl c.put_cut.ensures
