-- Two solved tables compare as 0 exactly if their answer tables are equal, whatever their variables (document 02, (xii)). Equal answer rows give the
-- same patterns (`same_rows_same_patterns`) and the same variables: the shorter list of widths is a beginning of the longer, they add up to
-- the same, and each width is at least 1. Assumes nothing.
use mathlib.Core.Path.{◌≡◌, refl, sym, ◌∙◌, ap, ap₂}
use mathlib.Core.List.{List, [], ◌∷◌, map}
use Prim.Native.Nat.{ℕ, zero, suc, ◌≤◌, ◌<◌}
use native.Mathlib.Omega.{arith}
use lib.ListN.{length, get_or}
use Rattle.terms.specs.declared.Row.{Row}
use Rattle.terms.specs.Faults.{Accepted, first_fault}
use Rattle.terms.specs.Table.{rows_of, row_at}
use Rattle.terms.proofs.AcceptedTable.{accepted_table}
use Rattle.terms.proofs.Faults.{kept, kept_width}
use Rattle.terms.proofs.RowKinds.{by_variable}
use Rattle.terms.proofs.Values.{width_variable}
use Rattle.answers.specs.declared.AnswerRow.{AnswerRow}
use Rattle.answers.specs.Answer.{variable_widths, answer_numbers, answer_rows_of}
use Rattle.answers.specs.Demands.{side_of, sides_from, sides_of}
use Rattle.answers.specs.Solve.{solved_rows, answer_record}
use Rattle.answers.specs.Systems.{side_width}
use Rattle.answers.proofs.AnswerNumbers.{rows_back}
use Rattle.answers.proofs.Demands.{same_answer}
use Rattle.answers.proofs.GeneralSystems.{width_sum}
use Rattle.answers.proofs.Lent.{call_answer}
use Rattle.answers.proofs.OurSystem.{answer_system}
use Rattle.answers.proofs.TwoTables.{same_rows_same_patterns}
use Rattle.answers.proofs.Variables.{widths_sum}
use Rattle.inclusion.specs.Call.{compare_record}
use Rattle.inclusion.specs.Comparing.{Comparable, SameAnswers}
use Rattle.inclusion.proofs.Theorems.{compared, gives_0}

-- ---- widths of variables are at least 1
abbrev Positive : List ℕ → Type 0
Positive ws = (i : ℕ) → i < length ws → 1 ≤ get_or ws i 0

more_positive : (w : ℕ) (ws : List ℕ) → 1 ≤ w → Positive ws → Positive (w ∷ ws)
more_positive w ws h more zero l = h
more_positive w ws h more (suc i) l = more i (omega arith)

rows_positive : (t : List Row) → ((r : ℕ) → r < length t → (row_at t r).kind ≡ 0 → 1 ≤ (row_at t r).a) → Positive (variable_widths t)
unfolding variable_widths
rows_positive [] h = λ i l. absurd (omega arith)
rows_positive (r ∷ t) h =
    let later = rows_positive t (λ i l. h (suc i) (omega arith)) in
    by_variable r (r.a ∷ variable_widths t) (variable_widths t) Positive (λ e. more_positive r.a (variable_widths t) (h 0 (omega arith) e) later) (λ n. later)

widths_positive : (table : List ℕ) → first_fault table ≡ Accepted → Positive (variable_widths (rows_of table))
widths_positive table accepted =
    rows_positive (rows_of table) (λ r l e.
    omega (
      arith,
      width_variable (rows_of table) r l e,
      (kept_width (rows_of table) r (kept (rows_of table) r ((accepted_table table accepted).sound r l)) (omega arith)).0,
    ))

-- ---- the widths that the rows of an answer tell, from variable k on
same_widths : (rows : List AnswerRow) (k : ℕ) (ws vs : List ℕ) → map side_width (sides_from k (length ws) rows) ≡ ws → map side_width (sides_from k (length vs) rows) ≡ vs
    → Positive ws → Positive vs → width_sum ws ≡ width_sum vs → ws ≡ vs
unfolding sides_from width_sum
same_widths rows k [] [] a b p q e = refl
same_widths rows k [] (v ∷ vs) a b p q e = absurd (omega (arith, e, q 0 (omega arith)))
same_widths rows k (w ∷ ws) [] a b p q e = absurd (omega (arith, e, p 0 (omega arith)))
same_widths rows k (w ∷ ws) (v ∷ vs) a b p q e =
    let x : side_width (side_of k rows) ≡ w = cc in
    let y : side_width (side_of k rows) ≡ v = cc in
    let c : map side_width (sides_from (suc k) (length ws) rows) ≡ ws = cc in
    let d : map side_width (sides_from (suc k) (length vs) rows) ≡ vs = cc in
    ap₂ (λ (z : ℕ) (zs : List ℕ). z ∷ zs) (sym x ∙ y)
    (same_widths rows (suc k) ws vs c d (λ i l. p (suc i) (omega arith)) (λ i l. q (suc i) (omega arith)) (omega (arith, e, x, y)))

module _ (first second : List ℕ) (af : first_fault first ≡ Accepted) (ag : first_fault second ≡ Accepted)
    (sf : (answer_record (rows_of first)).outcome ≡ 2) (sg : (answer_record (rows_of second)).outcome ≡ 2) where
  rows_variables : solved_rows (rows_of first) ≡ solved_rows (rows_of second) → variable_widths (rows_of first) ≡ variable_widths (rows_of second)
  unfolding sides_of
  rows_variables e =
      same_widths (solved_rows (rows_of second)) 0 (variable_widths (rows_of first)) (variable_widths (rows_of second))
      (ap (λ (rows : List AnswerRow). map side_width (sides_from 0 (length (variable_widths (rows_of first))) rows)) (sym e) ∙ (answer_system first af sf).solves.widths_are)
      (answer_system second ag sg).solves.widths_are
      (widths_positive first af) (widths_positive second ag)
      (widths_sum (rows_of first) ∙ (same_rows_same_patterns first second af ag sf sg e).0 ∙ sym (widths_sum (rows_of second)))

  module _ (room : ℕ) (enough : 16384 ≤ room) where
    numbers_to : (compare_record first second room).outcome ≡ 0 → answer_numbers (solved_rows (rows_of first)) ≡ answer_numbers (solved_rows (rows_of second))
    numbers_to z =
        let g = gives_0 first second room z in
        ap answer_numbers (same_answer (rows_of first) (rows_of second) g.0.same-variables g.1).same_rows

    numbers-of : answer_numbers (solved_rows (rows_of first)) ≡ answer_numbers (solved_rows (rows_of second)) → (compare_record first second room).outcome ≡ 0
    numbers-of e =
        let rows : solved_rows (rows_of first) ≡ solved_rows (rows_of second) =
        sym (rows_back (solved_rows (rows_of first))) ∙ ap answer_rows_of e ∙ rows_back (solved_rows (rows_of second)) in
        let c : Comparable first second room =
        record { first_accepted = af; second_accepted = ag; same-variables = rows_variables rows; enough = enough } in
        (compared first second room c).same.of (same_rows_same_patterns first second af ag sf sg rows).1

    -- (b)
    pub same_answers : SameAnswers first second (compare_record first second room).outcome
    same_answers =
        record {
          same_numbers = record { to = numbers_to; of = numbers-of };
          as_written = λ old work old' work' a b c d.
              let x = call_answer first af old work a b sf in
              let y = call_answer second ag old' work' c d sg in
              record { to = λ z. x ∙ numbers_to z ∙ sym y; of = λ e. numbers-of (sym x ∙ e ∙ y) };
        }
