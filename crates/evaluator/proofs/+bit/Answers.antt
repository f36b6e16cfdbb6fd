-- `bit` meets its contract: the row number falls at each call, and each kind's bit is that of proofs/Bits.antt.
-- Assumes nothing.
use Rattle.std.proofs.Common.{sym, ◌∙◌, ap, ap₂, ℕ, ◌+◌, ◌-◌, get_or}
use native.Mathlib.Omega.{arith}
use Rattle.terms.specs.declared.Row.{Row}
use Rattle.terms.specs.Table.{rows_of, row_at, fixed_word, value_of}
use Rattle.terms.proofs.Rows.{rows_length}
use Rattle.evaluator.specs.inner.Ready.{is_fixed}
use Rattle.evaluator.proofs.Bits.{row_small, number_small, first_lower, extract_left_over, variable_within, variable_bit, fill_small, fixed_within, fixed_value, left_term, right_term, left_lower, right_lower, left_bit, right_within, right_bit, cut_term, cut_lower, cut_within, cut_bit}
use Rattle.evaluator.proofs.+bit.Goals as goal

pub source_before-requires-clause-row_bound : goal.source_before-requires-clause-row_bound
source_before-requires-clause-row_bound t c = row_small _ _ _ _ c.requires.ready _ c.requires.term

pub source_before-requires-clause-row_bound_2 : goal.source_before-requires-clause-row_bound_2
source_before-requires-clause-row_bound_2 t c = number_small _ _ _ _ c.requires.ready _ c.requires.term

-- a variable's bit lies within the pattern
pub overflow_sub-result : goal.overflow_sub-result
overflow_sub-result t c =
    let kind = sym (ap (λ (r : Row). r.kind) c.row_at-r.ensures) ∙ c.if-kind-eq-VARIABLE.true in
    (variable_within _ _ _ _ c.requires.ready _ c.requires.term _ c.requires.i_bound _ c.source_before.ensures.0 kind).0

pub bounds-pattern-source_before : goal.bounds-pattern-source_before
bounds-pattern-source_before t c =
    let kind = sym (ap (λ (r : Row). r.kind) c.row_at-r.ensures) ∙ c.if-kind-eq-VARIABLE.true in
    (variable_within _ _ _ _ c.requires.ready _ c.requires.term _ c.requires.i_bound _ c.source_before.ensures.0 kind).1

pub returns-then-kind-eq-VARIABLE : goal.returns-then-kind-eq-VARIABLE
returns-then-kind-eq-VARIABLE t c =
    let kind = sym (ap (λ (r : Row). r.kind) c.row_at-r.ensures) ∙ c.if-kind-eq-VARIABLE.true in
    variable_bit _ _ _ _ c.requires.ready _ c.requires.term _ c.requires.i_bound _ c.source_before.ensures.0 kind

pub fixed_bit-requires-clause-a_bound : goal.fixed_bit-requires-clause-a_bound
fixed_bit-requires-clause-a_bound t c =
    λ h. omega (
      arith,
      ap (λ (r : Row). r.a) c.row_at-r.ensures,
      fill_small _ _ _ _ c.requires.ready _ c.requires.term _ c.requires.i_bound (sym (ap (λ (r : Row). r.kind) c.row_at-r.ensures) ∙ h),
    )

pub fixed_bit-requires-clause-i_lt_b : goal.fixed_bit-requires-clause-i_lt_b
fixed_bit-requires-clause-i_lt_b t c =
    let fixed = ap is_fixed (sym (ap (λ (r : Row). r.kind) c.row_at-r.ensures)) ∙ sym c.fixed.ensures ∙ c.if-fixed.true in
    omega (arith, ap (λ (r : Row). r.b) c.row_at-r.ensures, fixed_within _ _ _ _ c.requires.ready _ c.requires.term _ c.requires.i_bound fixed)

pub returns-then-fixed : goal.returns-then-fixed
returns-then-fixed t c =
    let fixed = ap is_fixed (sym (ap (λ (r : Row). r.kind) c.row_at-r.ensures)) ∙ sym c.fixed.ensures ∙ c.if-fixed.true in
    c.fixed_bit.ensures
    ∙ ap (λ (r : Row). get_or (fixed_word r) c.args.i 0) c.row_at-r.ensures
    ∙ fixed_value _ _ _ _ c.requires.ready _ c.requires.term _ c.requires.i_bound fixed

-- where neither a variable nor a fixed word was met, an earlier row is named first
pub bounds-widths-a : goal.bounds-widths-a
bounds-widths-a t c =
    let kind = ap (λ (r : Row). r.kind) c.row_at-r.ensures in
    let a = c.from-a.ensures ∙ ap (λ (r : Row). r.a) c.row_at-r.ensures in
    let named = first_lower _ _ _ _ c.requires.ready _ c.requires.term (λ h. c.if-kind-eq-VARIABLE.false (kind ∙ h)) (ap is_fixed (sym kind) ∙ sym c.fixed.ensures ∙ c.if-fixed.false) in
    omega (arith, a, named, c.requires.ready.placed.widths_room, c.requires.term.there)

pub bit-requires : goal.bit-requires
bit-requires t c =
    let a = c.from-a.ensures ∙ ap (λ (r : Row). r.a) c.row_at-r.ensures in
    let e = sym (ap (λ (r : Row). r.kind) c.row_at-r.ensures) ∙ c.if-kind-eq-CONCAT.true in
    let named = left_term _ _ _ _ c.requires.ready _ c.requires.term _ c.requires.i_bound e in
    let low = left_lower _ _ _ _ c.requires.ready _ c.requires.term _ c.requires.i_bound e in
    let width = c.from-width.ensures ∙ ap (λ (n : ℕ). get_or c.args.widths.now n 0) a ∙ c.requires.ready.placed.numbered.widths_are _ named.there in (
      omega (arith, a, low, c.decreases),
      (c.requires.ready, (rw a named, rw a (omega (arith, c.if-i-width.true, width)))),
    )

pub returns-then-i-width : goal.returns-then-i-width
returns-then-i-width t c =
    let a = c.from-a.ensures ∙ ap (λ (r : Row). r.a) c.row_at-r.ensures in
    let e = sym (ap (λ (r : Row). r.kind) c.row_at-r.ensures) ∙ c.if-kind-eq-CONCAT.true in
    let named = left_term _ _ _ _ c.requires.ready _ c.requires.term _ c.requires.i_bound e in
    let width = c.from-width.ensures ∙ ap (λ (n : ℕ). get_or c.args.widths.now n 0) a ∙ c.requires.ready.placed.numbered.widths_are _ named.there in
    c.bit.ensures
    ∙ ap (λ (n : ℕ). get_or (value_of (rows_of c.args.table.now) c.args.pattern.now n) c.args.i 0) a
    ∙ left_bit _ _ _ _ c.requires.ready _ c.requires.term _ c.requires.i_bound e (omega (arith, c.if-i-width.true, width))

pub bit-requires-then-kind-eq-CONCAT : goal.bit-requires-then-kind-eq-CONCAT
bit-requires-then-kind-eq-CONCAT t c =
    let a = c.from-a.ensures ∙ ap (λ (r : Row). r.a) c.row_at-r.ensures in
    let b = c.from-b.ensures ∙ ap (λ (r : Row). r.b) c.row_at-r.ensures in
    let e = sym (ap (λ (r : Row). r.kind) c.row_at-r.ensures) ∙ c.if-kind-eq-CONCAT.true in
    let first = left_term _ _ _ _ c.requires.ready _ c.requires.term _ c.requires.i_bound e in
    let named = right_term _ _ _ _ c.requires.ready _ c.requires.term _ c.requires.i_bound e in
    let low = right_lower _ _ _ _ c.requires.ready _ c.requires.term _ c.requires.i_bound e in
    let width = c.from-width.ensures ∙ ap (λ (n : ℕ). get_or c.args.widths.now n 0) a ∙ c.requires.ready.placed.numbered.widths_are _ first.there in
    let in_right = right_within _ _ _ _ c.requires.ready _ c.requires.term _ c.requires.i_bound e (omega (arith, c.if-i-width.false, width)) in (
      omega (arith, b, low, c.decreases),
      (c.requires.ready, (rw b named, rw (b, width) in_right)),
    )

pub returns-then-kind-eq-CONCAT : goal.returns-then-kind-eq-CONCAT
returns-then-kind-eq-CONCAT t c =
    let a = c.from-a.ensures ∙ ap (λ (r : Row). r.a) c.row_at-r.ensures in
    let b = c.from-b.ensures ∙ ap (λ (r : Row). r.b) c.row_at-r.ensures in
    let e = sym (ap (λ (r : Row). r.kind) c.row_at-r.ensures) ∙ c.if-kind-eq-CONCAT.true in
    let first = left_term _ _ _ _ c.requires.ready _ c.requires.term _ c.requires.i_bound e in
    let width = c.from-width.ensures ∙ ap (λ (n : ℕ). get_or c.args.widths.now n 0) a ∙ c.requires.ready.placed.numbered.widths_are _ first.there in
    c.bit-then-kind-eq-CONCAT.ensures
    ∙ ap₂ (λ (n k : ℕ). get_or (value_of (rows_of c.args.table.now) c.args.pattern.now n) (c.args.i - k) 0) b width
    ∙ right_bit _ _ _ _ c.requires.ready _ c.requires.term _ c.requires.i_bound e (omega (arith, c.if-i-width.false, width))

-- what is left is an extraction
pub overflow_sub-width : goal.overflow_sub-width
overflow_sub-width t c =
    let kind = ap (λ (r : Row). r.kind) c.row_at-r.ensures in
    let a = c.from-a.ensures ∙ ap (λ (r : Row). r.a) c.row_at-r.ensures in
    let b = c.from-b.ensures ∙ ap (λ (r : Row). r.b) c.row_at-r.ensures in
    let k = extract_left_over _ _ _ _ c.requires.ready _ c.requires.term (λ h. c.if-kind-eq-VARIABLE.false (kind ∙ h)) (ap is_fixed (sym kind) ∙ sym c.fixed.ensures ∙ c.if-fixed.false) (λ h. c.if-kind-eq-CONCAT.false (kind ∙ h)) in
    let named = cut_term _ _ _ _ c.requires.ready _ c.requires.term _ c.requires.i_bound k in
    let width = c.from-width.ensures ∙ ap (λ (n : ℕ). get_or c.args.widths.now n 0) a ∙ c.requires.ready.placed.numbered.widths_are _ named.there in
    omega (arith, b, width, (cut_within _ _ _ _ c.requires.ready _ c.requires.term _ c.requires.i_bound k).0)

pub bit-requires-2 : goal.bit-requires-2
bit-requires-2 t c =
    let kind = ap (λ (r : Row). r.kind) c.row_at-r.ensures in
    let a = c.from-a.ensures ∙ ap (λ (r : Row). r.a) c.row_at-r.ensures in
    let b = c.from-b.ensures ∙ ap (λ (r : Row). r.b) c.row_at-r.ensures in
    let k = extract_left_over _ _ _ _ c.requires.ready _ c.requires.term (λ h. c.if-kind-eq-VARIABLE.false (kind ∙ h)) (ap is_fixed (sym kind) ∙ sym c.fixed.ensures ∙ c.if-fixed.false) (λ h. c.if-kind-eq-CONCAT.false (kind ∙ h)) in
    let named = cut_term _ _ _ _ c.requires.ready _ c.requires.term _ c.requires.i_bound k in
    let low = cut_lower _ _ _ _ c.requires.ready _ c.requires.term _ c.requires.i_bound k in
    let width = c.from-width.ensures ∙ ap (λ (n : ℕ). get_or c.args.widths.now n 0) a ∙ c.requires.ready.placed.numbered.widths_are _ named.there in (
      omega (arith, a, low, c.decreases),
      (
        c.requires.ready,
        (rw a named, rw a (omega (arith, b, width, (cut_within _ _ _ _ c.requires.ready _ c.requires.term _ c.requires.i_bound k).1))),
      ),
    )

pub returns : goal.returns
returns t c =
    let kind = ap (λ (r : Row). r.kind) c.row_at-r.ensures in
    let a = c.from-a.ensures ∙ ap (λ (r : Row). r.a) c.row_at-r.ensures in
    let b = c.from-b.ensures ∙ ap (λ (r : Row). r.b) c.row_at-r.ensures in
    let k = extract_left_over _ _ _ _ c.requires.ready _ c.requires.term (λ h. c.if-kind-eq-VARIABLE.false (kind ∙ h)) (ap is_fixed (sym kind) ∙ sym c.fixed.ensures ∙ c.if-fixed.false) (λ h. c.if-kind-eq-CONCAT.false (kind ∙ h)) in
    let named = cut_term _ _ _ _ c.requires.ready _ c.requires.term _ c.requires.i_bound k in
    let width = c.from-width.ensures ∙ ap (λ (n : ℕ). get_or c.args.widths.now n 0) a ∙ c.requires.ready.placed.numbered.widths_are _ named.there in
    c.bit-2.ensures
    ∙ ap (λ (n : ℕ). get_or (value_of (rows_of c.args.table.now) c.args.pattern.now n) (c.from-width.result - (c.from-b.result + 1) + c.args.i) 0) a
    ∙ ap₂ (λ (m n : ℕ). get_or (value_of (rows_of c.args.table.now) c.args.pattern.now (row_at (rows_of c.args.table.now) c.args.row).a) (m - (n + 1) + c.args.i) 0) width b
    ∙ cut_bit _ _ _ _ c.requires.ready _ c.requires.term _ c.requires.i_bound k
