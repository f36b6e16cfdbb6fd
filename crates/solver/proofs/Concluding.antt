-- What is made of the equations taken: the record of each outcome, the answer's rows, and then their homes.
use mathlib.Core.Path.{◌≡◌, refl, sym, ap, ap₂, ◌∙◌, subst}
use mathlib.Core.Logic.{◌≢◌}
use mathlib.Core.Bool.{false}
use mathlib.Core.List.{List}
use Prim.Native.Nat.{ℕ, ◌*◌, ◌-◌, ◌%◌, ◌≤◌, ◌<◌}
use native.Mathlib.Omega.{arith}
use lib.ListN.{length}
use borrow.Author.Tests.{eq-eqb, ne_eqb}
use Rattle.terms.specs.declared.Record.{Record}
use Rattle.terms.specs.declared.Row.{Row}
use Rattle.terms.specs.Table.{rows_of, bits_of, satisfies}
use Rattle.laws.specs.Lists.{tally}
use Rattle.terms.specs.Faults.{Accepted, first_fault}
use Rattle.laws.specs.Buffers.{overwrite}
use Rattle.terms.specs.Calls.{completed}
use Rattle.terms.proofs.AcceptedTable.{accepted_table}
use Rattle.laws.proofs.Tallies.{tally_most}
use Rattle.answers.specs.Pairs.{Pair, equation_pairs, equal_under}
use Rattle.answers.specs.inner.Classes.{in_class, Represents}
use Rattle.answers.specs.declared.AnswerRow.{AnswerRow}
use Rattle.answers.specs.Answer.{appears, variable_widths, answer_rows, answer_numbers, fresh_pieces, free_bits}
use Rattle.answers.specs.inner.FourNumbers.{four_numbers}
use Rattle.answers.specs.inner.Orderly.{Orderly}
use Rattle.answers.specs.Solve.{unsatisfiable, solved_rows, ties_to, always_record, never_record, solved_record, answer_record}
use Rattle.answers.proofs.Tables.{table_classes, classes_run, represent, conflict_most, apart_one, solved-rows, is_left, never-record, always-record, solved-record, all-ties, rows_few}
use Rattle.answers.proofs.Theorems.{links-before}
use Rattle.answers.proofs.Demands.{demand_3, solved_sum, solved_appear}
use Rattle.answers.proofs.GeneralSystems.{width_sum}
use Rattle.answers.proofs.Variables.{widths_sum}
use Rattle.assignments.proofs.Theorems.{solved_form}
use Rattle.assignments.proofs.FormFacts.{orderly_written}
use Rattle.homes.specs.inner.Homes.{PutsHomes}
use Rattle.borders.specs.inner.Rows.{RowsPut, PutsRows}
use Rattle.terms.proofs.AcceptedTable.{table_bits}
use Rattle.linking.specs.inner.Classes.{ClassesTaken}
use Rattle.solver.specs.inner.Call.{answer_over, fours_over, Concluded, Answered, TakenOf}

-- a number below 2 ^ 32 stays
pub kept_short : (x : ℕ) → x ≤ 1000000 → x % 4294967296 ≡ x
kept_short x l = omega arith

-- a record of outcome 2 by its fields
pub same_record : {p p' f f' o o' k k' : ℕ} → p ≡ p' → f ≡ f' → o ≡ o' → k ≡ k'
    → ◌≡◌ {A = Record} (record { outcome = 2; pieces = p; fresh = f; free = o; ties = k; row = 0 }) (record { outcome = 2; pieces = p'; fresh = f'; free = o'; ties = k'; row = 0 })
same_record a b c d = rw (a, b, c, d) refl

-- representatives of so many bits
as_many_bits : {n m : ℕ} {c : List ℕ} {seen : List Pair} → n ≡ m → Represents n c seen → Represents m c seen
as_many_bits {c = c} {seen = seen} e r = subst (λ (k : ℕ). Represents k c seen) e r

-- the table lent, and one with its variables whose equations were taken
pub taken_bits : {table other links : List ℕ} {row ties : ℕ} → TakenOf table other links row ties → bits_of (rows_of table) ≡ bits_of (rows_of other)
taken_bits {table} {other} F = sym (widths_sum (rows_of table)) ∙ ap width_sum (sym F.variables) ∙ widths_sum (rows_of other)

module _ (table other links answer : List ℕ) (row ties : ℕ) (F : TakenOf table other links row ties) where
  abbrev t : List Row
  t = rows_of other

  abbrev n : ℕ
  n = bits_of (rows_of other)

  accepted : first_fault other ≡ Accepted
  accepted = F.accepted

  E : ClassesTaken (rows_of other) links row ties
  E = F.taken

  pub same_bits : bits_of (rows_of table) ≡ bits_of (rows_of other)
  same_bits = taken_bits F

  few_bits : n ≤ 4096
  few_bits = table_bits other accepted

  pub conclude_never : row < length (rows_of table) → (r : Record) → r ≡ never_record (ties % 4294967296) (row % 4294967296) → Concluded (rows_of other) answer answer r
  unfolding fours_over
  conclude_never l r e =
      let few = (accepted_table other accepted).few in
      let a : answer_record t ≡ never_record ties row = never-record other accepted (omega (arith, E.row_is, F.as_many)) ∙ ap₂ never_record (sym E.ties_are) (sym E.row_is) in
      let b : r ≡ answer_record t = e ∙ ap₂ never_record (kept_short ties (omega (arith, E.few))) (kept_short row (omega (arith, F.as_many))) ∙ sym a in
      record { record_is = b; fours_are = rw a refl }

  module _ (l : length (rows_of table) ≤ row) where
    pub whole_row : row ≡ length (rows_of other)
    whole_row = omega (arith, E.row_is, conflict_most other accepted, F.as_many)

    pub conclude_always : ties ≡ 0 → (bits : ℕ) → bits ≡ bits_of (rows_of table) → (r : Record) → r ≡ completed 0 (bits % 4294967296) → Concluded (rows_of other) answer answer r
    unfolding fours_over
    conclude_always z bits w r e =
        let a : answer_record t ≡ always_record n = always-record other accepted (sym E.row_is ∙ whole_row) (sym E.ties_are ∙ z) in
        let b : r ≡ answer_record t = e ∙ ap (completed 0) (kept_short bits (omega (arith, few_bits, same_bits)) ∙ w ∙ same_bits) ∙ sym a in
        record { record_is = b; fours_are = rw a refl }

    some : unsatisfiable t ≡ false
    some = is_left other accepted (sym E.row_is ∙ whole_row)

    classes_table : links ≡ table_classes other accepted
    classes_table = E.settled whole_row ∙ sym (classes_run other accepted)

    -- what is written for the variables of the table lent
    pub conclude_solved : first_fault table ≡ Accepted → ties ≢ 0 → (bits : ℕ) → bits ≡ bits_of (rows_of table) → (answer' : List ℕ) (pieces fresh : ℕ)
        → PutsRows table links answer answer' pieces fresh → (r : Record)
        → r ≡ record { outcome = 2; pieces = pieces % 4294967296; fresh = fresh % 4294967296; free = (bits - ties) % 4294967296; ties = ties % 4294967296; row = 0 }
        → Concluded (rows_of other) answer answer' r
    unfolding fours_over
    conclude_solved lent z bits w answer' pieces fresh P r e =
        let put : RowsPut table (table_classes other accepted) answer answer' pieces fresh =
        subst (λ (c : List ℕ). PutsRows table c answer answer' pieces fresh) classes_table P _ lent (as_many_bits (sym same_bits) (represent other accepted)) (apart_one other accepted some) in
        let rows : solved_rows t ≡ answer_rows n (variable_widths t) (in_class (table_classes other accepted)) = solved-rows other accepted some in
        let many : pieces ≡ length (solved_rows t) = rw (same_bits, ← F.variables) at put.pieces_are ∙ ap length (sym rows) in
        let appear : fresh ≡ tally n (appears n (variable_widths t) (in_class (table_classes other accepted))) = rw (same_bits, ← F.variables) at put.fresh_are in
        let new : fresh ≡ fresh_pieces (solved_rows t) = appear ∙ sym (solved_appear other accepted some) in
        let tied : ties_to t (length t) ≡ ties = all-ties other accepted some ∙ sym (links-before n (equation_pairs t)) ∙ sym E.ties_are in
        let open' : bits - ties ≡ free_bits (solved_rows t) = omega (arith, solved_sum other accepted some, tied, w, same_bits) in
        let a : answer_record t ≡ solved_record (solved_rows t) ties =
        solved-record other accepted (sym E.row_is ∙ whole_row) (λ k. z (E.ties_are ∙ k)) ∙ ap (solved_record (solved_rows t)) (sym E.ties_are) in
        let few : pieces ≤ 4096 = omega (arith, many, ap length rows, rows_few n (variable_widths t) (in_class (table_classes other accepted)), few_bits) in
        let written : answer' ≡ overwrite (four_numbers (solved_rows t)) answer =
        rw (same_bits, ← F.variables) at put.answer_is ∙ ap (λ (x : List AnswerRow). overwrite (four_numbers x) answer) (sym rows) in
        let b : r ≡ answer_record t =
        e ∙ same_record (kept_short pieces (omega arith) ∙ many)
        (kept_short fresh (omega (arith, appear, tally_most n (appears n (variable_widths t) (in_class (table_classes other accepted))), few_bits)) ∙ new)
        (kept_short (bits - ties) (omega (arith, w, few_bits, same_bits)) ∙ open') (kept_short ties (omega (arith, E.few))) ∙ sym a in
        record { record_is = b; fours_are = rw a written }

-- a solved table has no more rows than bits
pub solved_few : (t : List Row) → length (solved_rows t) ≤ bits_of t
unfolding solved_rows
solved_few t = rows_few (bits_of t) (variable_widths t) (equal_under (bits_of t) (satisfies t))

-- the homes are set, for outcome 2 alone
module _ (table : List ℕ) (accepted : first_fault table ≡ Accepted) (answer answer₁ : List ℕ) (r : Record) (D : Concluded (rows_of table) answer answer₁ r) where
  pub homes_set : r.outcome ≡ 2 → (answer' : List ℕ) (pieces room : ℕ) → pieces ≡ r.pieces → PutsHomes pieces answer₁ answer' room → 4096 ≤ room → bits_of (rows_of table) * 6 ≤ length answer
      → Answered (rows_of table) answer answer' r
  unfolding answer_over fours_over
  homes_set o answer' pieces room many H space long =
      let two : (answer_record (rows_of table)).outcome ≡ 2 = sym (ap (λ (x : Record). x.outcome) D.record_is) ∙ o in
      let all : pieces ≡ length (solved_rows (rows_of table)) = many ∙ ap (λ (x : Record). x.pieces) D.record_is ∙ (demand_3 table accepted).solved_pieces two in
      let tidy : Orderly (solved_rows (rows_of table)) = orderly_written (solved_rows (rows_of table)) (solved_form table accepted two) in
      let few : pieces ≤ 4096 = omega (arith, all, tidy.few) in
      let most : pieces ≤ bits_of (rows_of table) = omega (arith, all, solved_few (rows_of table)) in
      let homed : answer' ≡ overwrite (answer_numbers (solved_rows (rows_of table))) answer =
      H (solved_rows (rows_of table)) answer all tidy (omega arith) (omega arith) (rw (eq-eqb (answer_record (rows_of table)).outcome 2 two) at D.fours_are) in
      record { record_is = D.record_is; answer_is = rw (eq-eqb (answer_record (rows_of table)).outcome 2 two) homed }

  pub no_homes : r.outcome ≢ 2 → Answered (rows_of table) answer answer₁ r
  unfolding answer_over fours_over
  no_homes o =
      let other : (answer_record (rows_of table)).outcome ≢ 2 = λ e. o (ap (λ (x : Record). x.outcome) D.record_is ∙ e) in
      record {
        record_is = D.record_is;
        answer_is = rw (ne_eqb (answer_record (rows_of table)).outcome 2 other) (rw (ne_eqb (answer_record (rows_of table)).outcome 2 other) at D.fours_are);
      }
