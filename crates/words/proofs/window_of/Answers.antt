-- `window_of` meets its contract. Assumes nothing.
use mathlib.Core.Path.{sym, ◌∙◌, ap}
use Prim.Native.Nat.{ℕ, ◌+◌}
use native.Mathlib.Omega.{arith}
use lib.ListN.{drop}
use Rattle.terms.specs.declared.Row.{Row}
use Rattle.terms.specs.Table.{rows_of}
use Rattle.terms.proofs.Rows.{rows_length}
use Rattle.words.proofs.Windows.{window_from, window_first, window_end, window_other, window_more, window_broken, some_here, none_here}
use Rattle.words.proofs.window_of.Goals as goal
use Rattle.words.proofs.window_of.Goals.{then-row-eq-VARIABLE+else-width-ne16, else-row-eq-VARIABLE}

pub loop-r-init : goal.loop-r-init
loop-r-init c = (omega arith, window_first (rows_of c.args.table.now))

pub returns-then-width-ne16 : goal.returns-then-width-ne16
returns-then-width-ne16 c =
    none_here (rows_of c.args.table.now) (sym c.loop-r.invariant.1 ∙ window_broken c.loop-r.k (rows_of c.args.table.now) c.loop-r.r
    (omega (arith, c.loop-r-test.true, rows_length c.args.table.now))
    (ap (λ (row : Row). row.kind) (sym c.row_at-row.ensures) ∙ c.if-row-eq-VARIABLE.true)
    (λ e.
    let w = ap (λ (row : Row). row.a) c.row_at-row.ensures ∙ e in
    absurd (omega (arith, c.if-width-ne16.true))))

pub loop-r-preserved : goal.loop-r-preserved
loop-r-preserved c =
    let l = c.loop-r in
    let t = rows_of c.args.table.now in
    elim c.if-row-eq-VARIABLE.branch [
      | then-row-eq-VARIABLE+else-width-ne16 w ↦ (
        omega (arith, w.k-is, l.invariant.0),
        ap (λ (n : ℕ). window_from n (drop (l.r + 1) t)) w.k-is
            ∙ sym (window_more l.k t l.r (omega (arith, c.loop-r-test.true, rows_length c.args.table.now))
            (ap (λ (row : Row). row.kind) (sym c.row_at-row.ensures) ∙ w.if-row-eq-VARIABLE.true)
            (ap (λ (row : Row). row.a) (sym c.row_at-row.ensures) ∙ w.if-width-ne16.false)) ∙ l.invariant.1,
      )
      | else-row-eq-VARIABLE w ↦ (
        omega (arith, w.k-is, l.invariant.0),
        ap (λ (n : ℕ). window_from n (drop (l.r + 1) t)) w.k-is
            ∙ sym (window_other l.k t l.r (omega (arith, c.loop-r-test.true, rows_length c.args.table.now))
            (λ e. w.if-row-eq-VARIABLE.false (ap (λ (row : Row). row.kind) c.row_at-row.ensures ∙ e))) ∙ l.invariant.1,
      )
    ]

pub returns-then-k-eq0 : goal.returns-then-k-eq0
returns-then-k-eq0 c =
    none_here (rows_of c.args.table.now)
    (sym c.loop-r.invariant.1 ∙ window_end c.loop-r.k (rows_of c.args.table.now) c.loop-r.r (omega (arith, c.loop-r-test.false, rows_length c.args.table.now)) ∙ c.if-k-eq0.true)

pub returns-else-k-eq0 : goal.returns-else-k-eq0
returns-else-k-eq0 c =
    some_here (rows_of c.args.table.now) c.loop-r.k c.if-k-eq0.false
    (sym (window_end c.loop-r.k (rows_of c.args.table.now) c.loop-r.r (omega (arith, c.loop-r-test.false, rows_length c.args.table.now))) ∙ c.loop-r.invariant.1)
