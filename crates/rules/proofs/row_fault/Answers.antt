-- `row_fault` meets its contract: the rules are asked in the documents' order. Assumes nothing.
use mathlib.Core.Path.{sym, ◌∙◌, ap}
use Prim.Native.Nat.{ℕ}
use Rattle.std.specs.Prelude.{Err}
use borrow.Author.Tests.{lt-ltb, le-ltb}
use Rattle.terms.specs.declared.Fault.TheVariants.{Kind, Unused, Named, Width, Value, Bounds, Count}
use Rattle.terms.specs.Faults.{wrong_width, wrong_bounds, first_rule}
use Rattle.rules.specs.inner.Rules.{rules_in}
use Rattle.rules.proofs.ByKind.{few}
use Rattle.rules.proofs.row_fault.Goals as goal

pub returns-in_default : goal.returns-in_default
unfolding first_rule rules_in
returns-in_default c =
    rw (lt-ltb _ _ c.in_default.ensures)
    (ap (λ (r : ℕ). Err (Kind r)) c.narrow-at.ensures)

pub returns-then-unused : goal.returns-then-unused
unfolding first_rule rules_in
returns-then-unused c =
    rw (
      le-ltb _ _ (few _ _ c.in-Some.ensures),
      sym c.unused.ensures ∙ c.if-unused.true,
    )
    (ap (λ (r : ℕ). Err (Unused r)) c.narrow-at.ensures)

pub returns-then-bad_names : goal.returns-then-bad_names
unfolding first_rule rules_in
returns-then-bad_names c =
    rw (
      le-ltb _ _ (few _ _ c.in-Some.ensures),
      sym c.unused.ensures ∙ c.if-unused.false,
      sym c.bad_names.ensures ∙ c.if-bad_names.true,
    )
    (ap (λ (r : ℕ). Err (Named r)) c.narrow-at.ensures)

pub returns-then-bad_width : goal.returns-then-bad_width
unfolding first_rule rules_in
returns-then-bad_width c =
    rw (
      le-ltb _ _ (few _ _ c.in-Some.ensures),
      sym c.unused.ensures ∙ c.if-unused.false,
      sym c.bad_names.ensures ∙ c.if-bad_names.false,
      ap (wrong_width c.args.row) (sym c.row_width.ensures.0) ∙ sym c.bad_width.ensures ∙ c.if-bad_width.true,
    )
    (ap (λ (r : ℕ). Err (Width r)) c.narrow-at.ensures)

pub returns-then-bad_value : goal.returns-then-bad_value
unfolding first_rule rules_in
returns-then-bad_value c =
    rw (
      le-ltb _ _ (few _ _ c.in-Some.ensures),
      sym c.unused.ensures ∙ c.if-unused.false,
      sym c.bad_names.ensures ∙ c.if-bad_names.false,
      ap (wrong_width c.args.row) (sym c.row_width.ensures.0) ∙ sym c.bad_width.ensures ∙ c.if-bad_width.false,
      sym c.bad_value.ensures ∙ c.if-bad_value.true,
    )
    (ap (λ (r : ℕ). Err (Value r)) c.narrow-at.ensures)

pub returns-then-bad_bounds : goal.returns-then-bad_bounds
unfolding first_rule rules_in
returns-then-bad_bounds c =
    rw (
      le-ltb _ _ (few _ _ c.in-Some.ensures),
      sym c.unused.ensures ∙ c.if-unused.false,
      sym c.bad_names.ensures ∙ c.if-bad_names.false,
      ap (wrong_width c.args.row) (sym c.row_width.ensures.0) ∙ sym c.bad_width.ensures ∙ c.if-bad_width.false,
      sym c.bad_value.ensures ∙ c.if-bad_value.false,
      ap (wrong_bounds c.args.row) (sym c.width_at.ensures.0) ∙ sym c.bad_bounds.ensures ∙ c.if-bad_bounds.true,
    )
    (ap (λ (r : ℕ). Err (Bounds r)) c.narrow-at.ensures)

pub returns-then-too_many : goal.returns-then-too_many
unfolding first_rule rules_in
returns-then-too_many c =
    rw (
      le-ltb _ _ (few _ _ c.in-Some.ensures),
      sym c.unused.ensures ∙ c.if-unused.false,
      sym c.bad_names.ensures ∙ c.if-bad_names.false,
      ap (wrong_width c.args.row) (sym c.row_width.ensures.0) ∙ sym c.bad_width.ensures ∙ c.if-bad_width.false,
      sym c.bad_value.ensures ∙ c.if-bad_value.false,
      ap (wrong_bounds c.args.row) (sym c.width_at.ensures.0) ∙ sym c.bad_bounds.ensures ∙ c.if-bad_bounds.false,
      sym c.too_many.ensures ∙ c.if-too_many.true,
    )
    (ap (λ (r : ℕ). Err (Count r)) c.narrow-at.ensures)

pub returns : goal.returns
unfolding first_rule rules_in
returns c =
    rw (
      le-ltb _ _ (few _ _ c.in-Some.ensures),
      sym c.unused.ensures ∙ c.if-unused.false,
      sym c.bad_names.ensures ∙ c.if-bad_names.false,
      ap (wrong_width c.args.row) (sym c.row_width.ensures.0) ∙ sym c.bad_width.ensures ∙ c.if-bad_width.false,
      sym c.bad_value.ensures ∙ c.if-bad_value.false,
      ap (wrong_bounds c.args.row) (sym c.width_at.ensures.0) ∙ sym c.bad_bounds.ensures ∙ c.if-bad_bounds.false,
      sym c.too_many.ensures ∙ c.if-too_many.false,
    )
