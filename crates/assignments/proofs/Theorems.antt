-- The pattern maker takes the solver's answer: the rows of a solved table have the form it asks for, and it makes exactly the
-- assignments that satisfy the table, each from one list of fresh bytes. Assumes nothing.
use mathlib.Core.Path.{◌≡◌, refl, sym, ap, ◌∙◌, subst}
use mathlib.Core.Bool.{true, false}
use mathlib.Core.List.{List, [], ◌++◌, reverse}
use Prim.Native.Nat.{ℕ, ◌≤◌}
use native.Mathlib.Omega.{arith}
use native.Mathlib.Nat.{mul-mod_left}
use lib.ListN.{length, take, drop}
use lib.Seq.{take_at}
use borrow.Author.Tests.{eq-eqb, le-ltb}
use Rattle.terms.specs.declared.Row.{Row}
use Rattle.terms.specs.Assignments.{Assignment, done, off, on}
use Rattle.terms.specs.Calls.{completed, stop_at}
use Rattle.terms.specs.Faults.{Accepted, first_fault}
use Rattle.terms.specs.Table.{rows_of, bits_of, same_word, satisfies}
use Rattle.terms.proofs.AcceptedTable.{table_bits}
use Rattle.terms.proofs.Assignments.{assignment_length}
use Rattle.terms.proofs.Satisfies.{word_same}
use Rattle.laws.proofs.Buffers.{overwrite-fits}
use Rattle.laws.specs.Buffers.{overwrite}
use Rattle.laws.specs.Lists.{all_bits, distinct}
use Rattle.answers.specs.declared.AnswerRow.{AnswerRow}
use Rattle.answers.specs.Answer.{variable_widths, numbers_from, answer_numbers, answer_rows_of, fresh_numbers, fresh_pieces, fresh_start, free_bits, bits_of_rows, instantiate}
use Rattle.answers.specs.Solve.{unsatisfiable, pairs_together, solved_rows, answer_record}
use Rattle.answers.specs.Pairs.{equation_pairs, equal_under}
use Rattle.answers.proofs.AnswerNumbers.{numbers_length, rows_back}
use Rattle.answers.proofs.Variables.{widths_sum, begins_first, begins_last}
use Rattle.answers.proofs.Tables.{table_classes, represent, apart_one, solved-rows}
use Rattle.answers.proofs.Demands.{demand_2, demand_3}
use Rattle.answers.proofs.OurSystem.{some_left}
use Rattle.assignments.specs.Form.{pattern_bits, rows_fine, homes_fine, has_form}
use Rattle.assignments.specs.Call.{wrong_fresh, pattern_record, pattern_after}
use Rattle.assignments.proofs.Places.{table_sized, table_variables}
use Rattle.assignments.proofs.FineRows.{answer_fine}
use Rattle.assignments.proofs.RowPlaces.{all-bits}
use Rattle.assignments.specs.Made.{MadeFromSolved, Makes, pattern_of}

-- Rows that are fine have the form as they are written.
pub form_of : (rows : List AnswerRow) → rows_fine [] rows ≡ true → has_form (answer_numbers rows) ≡ true
unfolding has_form homes_fine
form_of rows h = rw (numbers_length rows, mul-mod_left (length rows) 6, rows_back rows, word_same (answer_numbers rows), h)

bits_all : {n : ℕ} {f : List ℕ} → Assignment n f → all_bits f ≡ true
unfolding all_bits
bits_all done = refl
bits_all (off a) = bits_all a
bits_all (on a) = bits_all a

module _ (table : List ℕ) (accepted : first_fault table ≡ Accepted) (solved : (answer_record (rows_of table)).outcome ≡ 2) where
  abbrev t : List Row
  t = rows_of table

  abbrev rows : List AnswerRow
  rows = solved_rows (rows_of table)

  abbrev some : unsatisfiable (rows_of table) ≡ false
  some = some_left (rows_of table) solved

  abbrev ws : List ℕ
  ws = variable_widths (rows_of table)

  pub rows-fine : rows_fine [] (solved_rows (rows_of table)) ≡ true
  rows-fine =
      ap (rows_fine []) (solved-rows table accepted some)
      ∙ answer_fine (bits_of t) (table_classes table accepted) (reverse (pairs_together (equation_pairs t))) (represent table accepted) (apart_one table accepted some) ws
      (begins_first ws) (begins_last t) (table_sized table accepted) (widths_sum t) (table_variables table accepted) (table_bits table accepted)

  -- The answer of a solved table has the form that is asked for.
  pub solved_form : has_form (answer_numbers (solved_rows (rows_of table))) ≡ true
  solved_form = form_of rows rows-fine

  -- Its pattern has the table's variable bits.
  pub pattern_length : pattern_bits (solved_rows (rows_of table)) ≡ bits_of (rows_of table)
  unfolding solved_rows
  pattern_length = all-bits (bits_of t) ws (equal_under (bits_of t) (satisfies t))

  free_is : (answer_record t).free ≡ free_bits rows
  free_is = (demand_3 table accepted).solved_free solved

  module _ (f old : List ℕ) (bits : Assignment (answer_record (rows_of table)).free f) (room : bits_of (rows_of table) ≤ length old) where
    filled : Assignment (bits_of t) (instantiate rows f) × (satisfies t (instantiate rows f) ≡ true)
    filled = (demand_2 table accepted solved).every_filling f (subst (λ (n : ℕ). Assignment n f) free_is bits)

    fresh_right : wrong_fresh (answer_numbers rows) f ≡ false
    unfolding wrong_fresh
    fresh_right = rw (rows_back rows, eq-eqb (length f) (free_bits rows) (assignment_length bits ∙ free_is), bits_all bits)

    record_is : pattern_record (answer_numbers rows) f (length old) ≡ completed 0 (bits_of t)
    unfolding pattern_record stop_at
    record_is = rw (solved_form, fresh_right, rows_back rows, pattern_length, le-ltb (length old) (bits_of t) room)

    length_is : length (instantiate rows f) ≡ bits_of t
    length_is = assignment_length filled.0

    after_is : pattern_after (answer_numbers rows) f old ≡ instantiate rows f ++ drop (bits_of t) old
    unfolding pattern_after
    after_is = rw (record_is, rows_back rows) (overwrite-fits (instantiate rows f) old (omega (arith, length_is)) ∙ ap (λ (n : ℕ). instantiate rows f ++ drop n old) length_is)

    pattern_is : pattern_of t f old ≡ instantiate rows f
    pattern_is = ap (take (bits_of t)) after_is ∙ take_at (instantiate rows f) (drop (bits_of t) old) (bits_of t) length_is

    makes : Makes t f old
    makes = record {
      returns = record_is;
      writes = pattern_is;
      keeps = after_is;
      is_assignment = subst (Assignment (bits_of t)) (sym pattern_is) filled.0;
      does_satisfy = ap (satisfies t) pattern_is ∙ filled.1;
    }

  -- The call makes the assignments that satisfy a solved table, and no others.
  pub made_from_solved : MadeFromSolved (rows_of table)
  made_from_solved =
      record {
        every_fresh = makes;
        every_assignment = λ p a s.
            let F = (demand_2 table accepted solved).one_filling p a s in
            let b : Assignment (answer_record t).free F.filling = subst (λ (n : ℕ). Assignment n F.filling) (sym free_is) F.bits in
            record {
              bytes = F.filling;
              are_bits = b;
              make = λ old room. pattern_is F.filling old b room ∙ F.gives;
              no_other = λ f old c room e. F.only f (subst (λ (n : ℕ). Assignment n f) free_is c) (sym (pattern_is f old c room) ∙ e);
            };
      }

-- An empty table with no fresh bytes gives an empty pattern, whatever the buffer, and leaves the buffer as it was.
empty_returned : (room : ℕ) → pattern_record [] [] room ≡ completed 0 0
unfolding pattern_record stop_at has_form rows_fine homes_fine same_word answer_numbers numbers_from answer_rows_of wrong_fresh all_bits free_bits fresh_pieces fresh_numbers fresh_start distinct pattern_bits
empty_returned room = rw (le-ltb room 0 (omega arith)) refl

pub empty_pattern : (old : List ℕ) → (pattern_record [] [] (length old) ≡ completed 0 0) × (pattern_after [] [] old ≡ old)
unfolding pattern_after
empty_pattern old = (empty_returned (length old), rw (empty_returned (length old)) (unfold answer_rows_of instantiate bits_of_rows overwrite in refl))
