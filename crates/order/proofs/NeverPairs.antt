-- (d) Of rearranged tables that no pattern meets ties and row may differ, both or either one alone: named tables, by computing. Assumes nothing.
use mathlib.Core.Path.{◌≡◌, refl, sym, ◌∙◌}
use mathlib.Core.Bool.{true}
use mathlib.Core.List.{List}
use Prim.Native.Nat.{ℕ, ◌<◌}
use native.Mathlib.Omega.{arith}
use lib.Dec.{eqb}
use lib.ListN.{length}
use borrow.Author.Tests.{eqb-true}
use Rattle.terms.specs.declared.Record.{Record}
use Rattle.terms.specs.declared.Row.{Row}
use Rattle.terms.specs.Assignments.{every}
use Rattle.terms.specs.Counting.{NoLines}
use Rattle.terms.specs.Sound.{IsEquation}
use Rattle.terms.specs.Table.{rows_of, row_at, bit_of, sources_of, same_word, evened, all_rows}
use Rattle.terms.proofs.Computed.{fault_computed, satisfies_computed}
use Rattle.terms.proofs.Satisfies.{all_at}
use Rattle.laws.specs.Lists.{count_up, least}
use Rattle.answers.specs.Pairs.{paired, pairs_of, pairs_in, equal_under, satisfies_pairs, ties}
use Rattle.answers.specs.Solve.{valid, unsatisfiable, satisfies_to, unsat_row, pairs_together, ties_to, never_record, answer_record}
use Rattle.order.specs.NeverPairs.{NeverPair, both_first, both_second, ties_first, ties_second, row_first, row_second}
use Rattle.order.proofs.Rearranged.{swapped_two}

-- a table in which column c is 0 everywhere has no line numbers
none_there : (t : List Row) → all_rows (λ r. eqb r.c 0) t ≡ true → NoLines t
none_there t h n r q = sym q.line_is ∙ eqb-true (row_at t r).c 0 (all_at (λ r. eqb r.c 0) t h r q.in_table)

is_there : (t : List Row) (r : ℕ) → r < length t → (row_at t r).kind ≡ 4 → IsEquation t r (row_at t r).a (row_at t r).b
is_there t r l k = record { in_table = l; is_equation = k; left_is = refl; right_is = refl }

-- the record of a table, computed
unfoldable record_computed : List Row → Record
unfolding satisfies_computed same_word evened bit_of sources_of count_up least every paired pairs_of pairs_in equal_under satisfies_pairs ties valid unsatisfiable satisfies_to unsat_row pairs_together ties_to answer_record
record_computed t = answer_record t

both_differ : NeverPair both_first both_second (never_record 1 4) (never_record 0 3)
unfolding fault_computed record_computed all_rows
both_differ =
    record {
      first_accepted = refl;
      second_accepted = refl;
      first_no_lines = none_there (rows_of both_first) refl;
      second_no_lines = none_there (rows_of both_second) refl;
      rearranged =
          let t : List Row = rows_of both_first in
          swapped_two t 3 4 _ _ _ _ (is_there t 3 (omega arith) refl) (is_there t 4 (omega arith) refl);
      first_is = refl;
      second_is = refl;
    }

ties_differ : NeverPair ties_first ties_second (never_record 1 5) (never_record 2 5)
unfolding fault_computed record_computed all_rows
ties_differ =
    record {
      first_accepted = refl;
      second_accepted = refl;
      first_no_lines = none_there (rows_of ties_first) refl;
      second_no_lines = none_there (rows_of ties_second) refl;
      rearranged =
          let t : List Row = rows_of ties_first in
          swapped_two t 4 6 _ _ _ _ (is_there t 4 (omega arith) refl) (is_there t 6 (omega arith) refl);
      first_is = refl;
      second_is = refl;
    }

row_differs : NeverPair row_first row_second (never_record 0 4) (never_record 0 3)
unfolding fault_computed record_computed all_rows
row_differs =
    record {
      first_accepted = refl;
      second_accepted = refl;
      first_no_lines = none_there (rows_of row_first) refl;
      second_no_lines = none_there (rows_of row_second) refl;
      rearranged =
          let t : List Row = rows_of row_first in
          swapped_two t 3 4 _ _ _ _ (is_there t 3 (omega arith) refl) (is_there t 4 (omega arith) refl);
      first_is = refl;
      second_is = refl;
    }

pub never_may_differ : NeverPair both_first both_second (never_record 1 4) (never_record 0 3)
    × NeverPair ties_first ties_second (never_record 1 5) (never_record 2 5)
    × NeverPair row_first row_second (never_record 0 4) (never_record 0 3)
never_may_differ = (both_differ, ties_differ, row_differs)
