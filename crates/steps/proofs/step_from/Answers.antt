-- `step_from` meets its contract: each way has its law in proofs/Stepping.antt. Assumes nothing.
use mathlib.Core.Path.{◌≡◌, sym, ◌∙◌, ap, subst}
use mathlib.Core.Logic.{⊎_elim}
use Prim.Native.Nat.{ℕ, suc, ◌+◌, ◌<◌}
use native.Mathlib.Omega.{arith}
use lib.ListN.{length}
use Rattle.laws.proofs.Numbers.{dec_eq}
use Rattle.terms.specs.Table.{rows_of}
use Rattle.terms.proofs.Rows.{rows_length}
use Rattle.terms.proofs.RowNumbers.{rows_written}
use Rattle.answers.specs.Solve.{answer_record}
use Rattle.jobs.specs.Prefix.{up_to}
use Rattle.states.specs.inner.Prefixes.{PrefixTaken}
use Rattle.steps.proofs.Stepping.{whole_taken, met_taken, at_row, few_more, few_all, taken_as, prefix_whole, end_whole, end_met, step_lost, step_left}
use Rattle.steps.proofs.step_from.Goals as goal

pub returns : goal.returns
returns c =
    λ ready wide P.
    let table = c.args.table.now in
    let t = rows_of table in
    let r = c.args.r in
    let accepted = ready.placed.numbered.accepted in
    let plain = ready.no_lines in
    let T = c.take_on-taken in
    let h : r < length t = omega (arith, c.requires, rows_length table) in
    let one : r + 1 ≡ suc r = omega arith in
    let Q : PrefixTaken t (suc r) T.new.links T.result.row (c.args.ties + T.result.ties) =
    subst (λ (n : ℕ). PrefixTaken t n T.new.links T.result.row (c.args.ties + T.result.ties)) one
    (T.ensures ready.placed ready.copied ready.left_room ready.right_room (omega arith) (omega (arith, h)) _ P) in
    let all : c.args.ties + T.result.ties ≡ c.args.ties + c.min.result = omega (arith, c.min.ensures, few_more table accepted plain r h _ _ P _ _ _ Q) in
    let total : c.short.result ≡ c.args.ties + T.result.ties = c.short.ensures ∙ omega (arith, all, few_all table accepted plain r h _ _ P _ _ _ Q) in
    ⊎_elim
    (λ e.
    let row = sym (c.end_row-row.ensures ∙ end_whole T.result.row r _ _ e (sym (rows_length table))) in
    step_left table accepted plain r h _ _ P _ _ _ Q e _ ((c.conclude.ensures accepted wide _ (taken_as row all (whole_taken table accepted plain (suc r) h _ _ (prefix_whole Q e)))).record_is ∙ ap answer_record (rows_written (up_to (suc r) t))) _ _ c.next_row.ensures total)
    (λ n.
    let row = sym (c.end_row-row.ensures ∙ end_met T.result.row r _ n) in
    step_lost table accepted plain r h _ _ P _ _ _ Q n _ ((c.conclude.ensures accepted wide _ (taken_as row all (met_taken table accepted plain (suc r) h _ _ _ (omega (arith, at_row table accepted plain r h _ _ P _ _ _ Q n)) Q))).record_is ∙ ap answer_record (rows_written (up_to (suc r) t))) _ _ c.next_row.ensures total)
    (dec_eq T.result.row (suc r))
