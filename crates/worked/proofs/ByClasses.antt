-- The answer of a table through the classes of its bit pairs, the executable twin of its definition (answers/specs/Classes.antt): an
-- accepted table's record is what the classes give, and so is its answer for outcome 2. Assumes nothing.
use mathlib.Core.Path.{◌≡◌, refl, ◌∙◌, ap}
use mathlib.Core.Bool.{Bool, true, false, cond}
use mathlib.Core.List.{List, []}
use Prim.Native.Nat.{ℕ, suc}
use native.Mathlib.Omega.{arith}
use lib.Dec.{eqb, ltb}
use lib.ListN.{length}
use borrow.Author.Tests.{ltb-true, ltb-false, eqb-true, eqb-false}
use Rattle.terms.specs.declared.Record.{Record}
use Rattle.terms.specs.declared.Row.{Row}
use Rattle.terms.specs.Faults.{Accepted, first_fault}
use Rattle.terms.specs.Table.{rows_of, bits_of}
use Rattle.laws.specs.Lists.{count_up}
use Rattle.answers.specs.Pairs.{equation_pairs}
use Rattle.answers.specs.inner.Classes.{in_class, classes_of, conflict_at, links_before}
use Rattle.answers.specs.declared.AnswerRow.{AnswerRow}
use Rattle.answers.specs.Answer.{variable_widths, answer_rows, answer_numbers}
use Rattle.answers.specs.Solve.{pairs_together, solved_rows, always_record, never_record, solved_record, answer_record}
use Rattle.answers.proofs.Tables.{table_classes, is_left, conflict_most, solved-rows, never-record, always-record, solved-record}

-- The row at which the fixed bits fall into one class, or the number of rows; the links of the equations before it; the answer's rows.
unfoldable pub conflict_row : List Row → ℕ
conflict_row t = conflict_at (count_up 0 (suc (suc (bits_of t)))) (equation_pairs t)

unfoldable pub links_to : List Row → ℕ
links_to t = links_before (count_up 0 (suc (suc (bits_of t)))) (equation_pairs t)

unfoldable pub class_rows : List Row → List AnswerRow
class_rows t = answer_rows (bits_of t) (variable_widths t) (in_class (classes_of (bits_of t) (pairs_together (equation_pairs t))))

-- The record, and the numbers of the answer for outcome 2.
unfoldable pub class_record : List Row → Record
class_record t =
    cond (ltb (conflict_row t) (length t)) (never_record (links_to t) (conflict_row t))
    (cond (eqb (links_to t) 0) (always_record (bits_of t))
    (solved_record (class_rows t) (links_to t)))

unfoldable pub class_answer : List Row → List ℕ
class_answer t = cond (eqb (class_record t).outcome 2) (answer_numbers (class_rows t)) []

module _ (table : List ℕ) (accepted : first_fault table ≡ Accepted) where
  abbrev t : List Row
  t = rows_of table

  abbrev Same : Type 0
  Same =
      (answer_record t ≡ class_record t)
      × (cond (eqb (class_record t).outcome 2) (answer_numbers (solved_rows t)) [] ≡ class_answer t)

  some_left : (b : Bool) → eqb (links_to t) 0 ≡ b → ltb (conflict_row t) (length t) ≡ false → Same
  unfolding conflict_row links_to class_record class_answer
  some_left b k h = go b k
    where
      stop : conflict_row t ≡ length t
      stop = omega (arith, ltb-false (conflict_row t) (length t) h, conflict_most table accepted)

      rows : solved_rows t ≡ class_rows t
      rows = unfold class_rows table_classes in (solved-rows table accepted (is_left table accepted stop))

      go : (b : Bool) → eqb (links_to t) 0 ≡ b → Same
      go true k = rw (h, k) (always-record table accepted stop (eqb-true (links_to t) 0 k), refl)
      go false k =
          rw (h, k) (
            solved-record table accepted stop (eqb-false (links_to t) 0 k) ∙ ap (λ (l : List AnswerRow). solved_record l (links_to t)) rows,
            ap answer_numbers rows,
          )

  pub by_classes : Same
  unfolding conflict_row links_to class_record class_answer
  by_classes = go (ltb (conflict_row t) (length t)) refl
    where
      go : (b : Bool) → ltb (conflict_row t) (length t) ≡ b → Same
      go true h = rw h (never-record table accepted (ltb-true (conflict_row t) (length t) h), refl)
      go false h = some_left (eqb (links_to t) 0) refl h
