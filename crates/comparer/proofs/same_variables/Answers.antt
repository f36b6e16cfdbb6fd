-- `same_variables` meets its contract: what the rests of both tables say is what all rows say. Assumes nothing.
use mathlib.Core.Path.{sym, ◌∙◌, ap}
use Prim.Native.Nat.{◌+◌}
use native.Mathlib.Omega.{arith}
use Rattle.terms.specs.declared.Row.{Row}
use Rattle.terms.specs.Table.{rows_of}
use Rattle.terms.proofs.Rows.{rows_length}
use Rattle.comparer.proofs.Variables.{rests_same, rests_end, rests_other, rests_fewer, rests_differ, rests_go_on}
use Rattle.comparer.proofs.same_variables.Goals as goal
use Rattle.comparer.proofs.same_variables.Goals.{then-row-eq-VARIABLE+in-Some+else-row_at-row, else-row-eq-VARIABLE}

pub returns-in_default : goal.returns-in_default
returns-in_default c =
    let t = rows_of c.args.first.now in
    let u = rows_of c.args.second.now in
    sym (rests_fewer t u c.loop-r.r c.loop-r.q (omega (arith, c.loop-r-test.true, rows_length c.args.first.now)) (ap (λ (r : Row). r.kind) (sym c.row_at-row.ensures) ∙ c.if-row-eq-VARIABLE.true) c.in_default.ensures)
    ∙ c.loop-r.invariant

pub returns-then-row_at-row : goal.returns-then-row_at-row
returns-then-row_at-row c =
    let t = rows_of c.args.first.now in
    let u = rows_of c.args.second.now in
    let next = c.in-Some.ensures in
    sym (rests_differ t u c.loop-r.r c.loop-r.q (omega (arith, c.loop-r-test.true, rows_length c.args.first.now)) (ap (λ (r : Row). r.kind) (sym c.row_at-row.ensures) ∙ c.if-row-eq-VARIABLE.true)
    c.in-Some.at next.0 next.1 next.2
    (λ e. c.if-row_at-row.true (ap (λ (r : Row). r.a) c.row_at.ensures ∙ sym e ∙ ap (λ (r : Row). r.a) (sym c.row_at-row.ensures))))
    ∙ c.loop-r.invariant

pub overflow_add-q : goal.overflow_add-q
overflow_add-q c = omega (arith, c.in-Some.ensures.0, rows_length c.args.second.now)

pub loop-r-preserved : goal.loop-r-preserved
loop-r-preserved c =
    let t = rows_of c.args.first.now in
    let u = rows_of c.args.second.now in
    elim c.if-row-eq-VARIABLE.branch [
      | then-row-eq-VARIABLE+in-Some+else-row_at-row w ↦ ap (rests_same t u (c.loop-r.r + 1)) w.q-is ∙ (rests_go_on t u c.loop-r.r c.loop-r.q (omega (arith, c.loop-r-test.true, rows_length c.args.first.now)) (ap (λ (r : Row). r.kind) (sym c.row_at-row.ensures) ∙ w.if-row-eq-VARIABLE.true)
          w.in-Some.at w.in-Some.ensures.0 w.in-Some.ensures.1 w.in-Some.ensures.2
          (ap (λ (r : Row). r.a) (sym c.row_at-row.ensures) ∙ sym w.if-row_at-row.false ∙ ap (λ (r : Row). r.a) w.row_at.ensures) ∙ c.loop-r.invariant)
      | else-row-eq-VARIABLE w ↦ ap (rests_same t u (c.loop-r.r + 1)) w.q-is ∙ (rests_other t u c.loop-r.r c.loop-r.q (omega (arith, c.loop-r-test.true, rows_length c.args.first.now)) (λ e. w.if-row-eq-VARIABLE.false (ap (λ (r : Row). r.kind) c.row_at-row.ensures ∙ e)) ∙ c.loop-r.invariant)
    ]

pub returns : goal.returns
returns c =
    rests_end (rows_of c.args.first.now) (rows_of c.args.second.now) c.loop-r.r c.loop-r.q (omega (arith, c.loop-r-test.false, rows_length c.args.first.now)) c.next_variable-2.result c.next_variable-2.ensures c.is_none.result c.is_none.ensures
    ∙ c.loop-r.invariant
