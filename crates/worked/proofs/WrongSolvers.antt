-- Wrong solvers are shut out, each at its table: by the demand that document 01 names for it. Assumes nothing.
use mathlib.Core.Path.{◌≡◌, refl, sym, ◌∙◌, ap, subst}
use mathlib.Core.Bool.{Bool}
use mathlib.Core.List.{List, [], ◌∷◌, ◌++◌}
use Prim.Native.Nat.{ℕ, ◌+◌, ◌-◌, ◌*◌, ◌^◌, ◌≤◌, ◌<◌}
use native.Mathlib.Omega.{arith}
use lib.ListN.{length, get_or, take, drop, replicate, length-replicate, replicate-append-replicate}
use lib.Seq.{take_at}
use borrow.Author.Tests.{le-ltb}
use Rattle.laws.proofs.Bools.{not_both}
use Rattle.laws.proofs.Buffers.{overwrite-fits}
use Rattle.terms.specs.declared.Record.{Record}
use Rattle.terms.specs.declared.Row.{Row}
use Rattle.terms.specs.Assignments.{done, off, on, every, count}
use Rattle.terms.specs.Calls.{stop_at}
use Rattle.terms.specs.Faults.{Accepted, first_fault}
use Rattle.terms.specs.Table.{rows_of, next_equation, bits_of, bit_of, satisfies, same_word, evened}
use Rattle.terms.proofs.Assignments.{assignment_length}
use Rattle.terms.proofs.Computed.{fault_computed, satisfies_computed}
use Rattle.answers.specs.declared.AnswerRow.{AnswerRow}
use Rattle.answers.specs.Answer.{variable_widths, free_bits, answer_numbers, answer_rows_of, instantiate, bits_of_rows, row_bits}
use Rattle.answers.specs.Pairs.{equation_pairs, equal_under, satisfies_pairs, ties}
use Rattle.answers.specs.Solve.{pairs_together, valid, unsatisfiable, satisfies_to, unsat_row, ties_to, answer_record, solved_record, solved_rows, solve_record, answer_after, never_record, always_record}
use Rattle.answers.specs.Demands.{Filled}
use Rattle.answers.proofs.AnswerNumbers.{numbers_length, rows_back}
use Rattle.answers.proofs.Demands.{demand_2, demand_3}
use Rattle.answers.proofs.Lent.{call_answer}
use Rattle.worked.specs.Cases.{Case, Holds, AllHold, ◌and◌, figures}
use Rattle.worked.specs.WrongSolvers.{Solver, right_solver, found_by, answering, solved_as, first_copied, first_equation_only, whole_pieces, every_variable_free, never_on, never_at_first, never_at_first_equation, always_always, every_pair_aTie, invented_rows, invented_tie, no_answer_table, all_refused, passed, sweep, swept_once, place_pairs, swept_label, swept_rows, one_sweep, WrongRecord, RightAt, rows_read, Breaks2, overlap, overlap_twice, both_zero, zero_and_one, zero_is_one, chain, chain_back, ShutOut}
use Rattle.worked.proofs.ByClasses.{by_classes}
use Rattle.worked.proofs.WorkedOut.{table_computed}
use Rattle.worked.proofs.Worked.{all-cases}
use Rattle.worked.proofs.WholePieces.{whole_system, whole_free}

-- The right solver is one that answers so.
pub right_is : answering answer_record solved_rows ≡ right_solver
unfolding found_by solve_record answer_after
right_is = refl

module _ (table : List ℕ) (accepted : first_fault table ≡ Accepted) where
  abbrev t : List Row
  t = rows_of table

  module _ (old : List ℕ) (work_room : ℕ) (room : 24576 ≤ length old) (memory : 16384 ≤ work_room) where
    -- With room an accepted table is answered; and so by the right solver.
    found-by : (answer : List Row → Record) → found_by answer table old work_room ≡ answer t
    unfolding found_by stop_at
    found-by answer = rw (le-ltb (length old) 24576 room, le-ltb work_room 16384 memory, accepted) refl

    right_found : solve_record table (length old) work_room ≡ answer_record t
    unfolding found_by solve_record
    right_found = found-by answer_record

    -- What a host reads of the right solver's answer are the answer's rows, which have demand 2.
    pub right_filled : (answer_record t).outcome ≡ 2 → Filled t (rows_read right_solver table old work_room)
    right_filled e =
        rw (right_found, simp length-replicate at (call_answer table accepted old (replicate work_room 0) room (simp length-replicate memory) e), rows_back (solved_rows t))
        (demand_2 table accepted e)

    -- So a solver that breaks demand 2 has another record, or leaves another answer table.
    pub breaks_not_right : (solver : Solver) → (answer_record t).outcome ≡ 2 → Breaks2 solver table
        → solver.found table old work_room ≡ solve_record table (length old) work_room → solver.left table old work_room ≡ answer_after table old work_room → ⊥
    breaks_not_right solver two broken e l = broken old work_room room memory (rw (e, l) (right_filled two))

    -- What a host reads of an answer that is solved are its rows, if they have room.
    rows-read : (answer : List Row → Record) (rows : List Row → List AnswerRow) (tied : ℕ) → answer t ≡ solved_record (rows t) tied
        → length (rows t) * 6 ≤ 24576 → rows_read (answering answer rows) table old work_room ≡ rows t
    rows-read answer rows tied is few =
        rw (found-by answer ∙ is)
        (ap answer_rows_of
        (ap (λ (l : List ℕ). take (length (rows t) * 6) l) (overwrite-fits (answer_numbers (rows t)) old (omega (arith, numbers_length (rows t))))
        ∙ take_at (answer_numbers (rows t)) (drop (length (answer_numbers (rows t))) old) (length (rows t) * 6) (numbers_length (rows t)))
        ∙ rows_back (rows t))

  -- A solver whose answer to the table is not the table's record is wrong there.
  shut : (answer : List Row → Record) (rows : List Row → List AnswerRow) → (answer t ≡ answer_record t → ⊥) → WrongRecord (answering answer rows) table
  shut answer rows other old work_room room memory e =
      other (sym (found-by old work_room room memory answer) ∙ e ∙ right_found old work_room room memory)

  -- One whose record and rows are the table's is right there.
  right_at : (answer : List Row → Record) (rows : List Row → List AnswerRow) → answer t ≡ answer_record t
      → answer_numbers (rows t) ≡ answer_numbers (solved_rows t) → RightAt (answering answer rows) table
  unfolding answer_after
  right_at answer rows is same old work_room room memory =
      let found : found_by answer table old work_room ≡ solve_record table (length old) work_room =
      found-by old work_room room memory answer ∙ is ∙ sym (right_found old work_room room memory) in
      (found, rw (found, same) refl)

  -- Rows that do not give the patterns break demand 2.
  breaks : (answer : List Row → Record) (rows : List Row → List AnswerRow) (tied : ℕ) → answer t ≡ solved_record (rows t) tied
      → length (rows t) * 6 ≤ 24576 → (Filled t (rows t) → ⊥) → Breaks2 (answering answer rows) table
  breaks answer rows tied is few other old work_room room memory filled =
      other (subst (Filled t) (rows-read old work_room room memory answer rows tied is few) filled)

  -- Where the outcome is 2, the rows and the ties are those of the wrong solver.
  solved-as : (rows : List Row → List AnswerRow) (tied : List Row → ℕ) → (answer_record t).outcome ≡ 2 → solved_as rows tied t ≡ solved_record (rows t) (tied t)
  unfolding solved_as
  solved-as rows tied e = rw e refl

-- The tables are accepted.
overlap_accepted : first_fault overlap ≡ Accepted
unfolding fault_computed
overlap_accepted = refl

twice_accepted : first_fault overlap_twice ≡ Accepted
unfolding fault_computed
twice_accepted = refl

both_accepted : first_fault both_zero ≡ Accepted
unfolding fault_computed
both_accepted = refl

zero_one_accepted : first_fault zero_and_one ≡ Accepted
unfolding fault_computed
zero_one_accepted = refl

never_accepted : first_fault zero_is_one ≡ Accepted
unfolding fault_computed
never_accepted = refl

chain_accepted : first_fault chain ≡ Accepted
unfolding fault_computed
chain_accepted = refl

back_accepted : first_fault chain_back ≡ Accepted
unfolding fault_computed
back_accepted = refl

-- Cases of a list; how many patterns meet cases 1, 4 and 5.
first_of : {c : Case} {cs : List Case} → AllHold (c ∷ cs) → Holds c
first_of (h and hs) = h

behind_of : {c : Case} {cs : List Case} → AllHold (c ∷ cs) → AllHold cs
behind_of (h and hs) = hs

abbrev Patterns : List ℕ → ℕ → Type 0
Patterns table n = count (bits_of (rows_of table)) (satisfies (rows_of table)) ≡ n

case_1 : Patterns overlap 16
case_1 = (first_of (behind_of all-cases)).1

case_4 : Patterns zero_is_one 0
case_4 = (first_of (behind_of (behind_of (behind_of (behind_of (behind_of all-cases)))))).1

case_5 : Patterns zero_and_one 0
case_5 = (first_of (behind_of (behind_of (behind_of (behind_of (behind_of (behind_of all-cases))))))).1

twice_16 : Patterns overlap_twice 16
unfolding table_computed satisfies_computed count same_word evened
twice_16 = refl

-- The right records, as far as they are asked for.
abbrev Is : List ℕ → Record → Type 0
Is table found = answer_record (rows_of table) ≡ found

overlap_is : Is overlap (figures 2 5 3 4 4 0)
unfolding table_computed
overlap_is = (by_classes overlap overlap_accepted).0

twice_is : Is overlap_twice (figures 2 5 3 4 4 0)
unfolding table_computed
twice_is = (by_classes overlap_twice twice_accepted).0

never_is : Is zero_is_one (figures 1 0 0 0 0 2)
unfolding table_computed
never_is = (by_classes zero_is_one never_accepted).0

zero_one_is : Is zero_and_one (figures 1 0 0 0 2 6)
unfolding table_computed
zero_one_is = (by_classes zero_and_one zero_one_accepted).0

chain_is : Is chain (figures 2 6 1 4 20 0)
unfolding table_computed
chain_is = (by_classes chain chain_accepted).0

back_is : Is chain_back (figures 2 6 1 4 20 0)
unfolding table_computed
back_is = (by_classes chain_back back_accepted).0

-- An answer row of one bit of variable 0, of a fresh piece.
abbrev bit : ℕ → AnswerRow
bit f = record { variable = 0; kind = 2; width = 1; fresh = f }

abbrev outcome-of : {r s : Record} → r ≡ s → r.outcome ≡ s.outcome
outcome-of e = ap (λ (r : Record). r.outcome) e

-- Whoever unfolds one of these unfolds all that its value is computed from: what a wrong solver's rows are, and whether a filling of them meets
-- the table;
unfoldable wrong_computed : List Row → List ℕ → Bool
unfolding table_computed satisfies_computed same_word instantiate bits_of_rows row_bits whole_pieces invented_rows passed sweep swept_once place_pairs swept_label swept_rows
wrong_computed t f = satisfies t (instantiate (swept_rows t) f)

-- the right answer by its definition, for tables of few bits, and that of the table whose equations are all the first one.
unfoldable first_computed : List Row → Record
unfolding wrong_computed every equal_under bit_of valid unsatisfiable satisfies_to unsat_row satisfies_pairs ties ties_to solved_rows answer_record first_copied next_equation
first_computed t = answer_record (first_copied t)

-- 1. The first equation only.
first_equation_3 : WrongRecord first_equation_only zero_and_one
unfolding first_computed
first_equation_3 =
    shut zero_and_one zero_one_accepted (λ t. answer_record (first_copied t)) (λ t. solved_rows (first_copied t))
    (λ e. omega (arith, outcome-of e, (demand_3 zero_and_one zero_one_accepted).never_of case_5))

-- u = v = 1 is given
first_equation_2 : Breaks2 first_equation_only both_zero
unfolding first_computed
first_equation_2 =
    breaks both_zero both_accepted (λ t. answer_record (first_copied t)) (λ t. solved_rows (first_copied t)) 1 refl (omega arith)
    (λ filled. not_both (filled.every_filling (1 ∷ []) (on done)).1 refl)

-- 2. Every variable free.
abbrev free_rows : List Row → List AnswerRow
free_rows t = whole_pieces 0 (variable_widths t)

free_is : solved_as free_rows (λ t. 0) (rows_of overlap) ≡ solved_record (free_rows (rows_of overlap)) 0
free_is = solved-as overlap overlap_accepted free_rows (λ t. 0) (outcome-of overlap_is)

variable_free : WrongRecord every_variable_free overlap
unfolding wrong_computed
variable_free =
    shut overlap overlap_accepted (solved_as free_rows (λ t. 0)) free_rows
    (λ e. let same : solved_record (free_rows (rows_of overlap)) 0 ≡ answer_record (rows_of overlap) = sym free_is ∙ e in
    omega (arith, case_1, (demand_3 overlap overlap_accepted).solved_count (outcome-of (sym same)) ∙ ap (λ (r : Record). 2 ^ r.free) (sym same)))

-- bit 6 alone is 1
variable_free_2 : Breaks2 every_variable_free overlap
unfolding wrong_computed
variable_free_2 =
    breaks overlap overlap_accepted (solved_as free_rows (λ t. 0)) free_rows 0 free_is (omega arith)
    (λ filled. not_both (filled.every_filling (0 ∷ 1 ∷ replicate 6 0) (off (on (off (off (off (off (off (off done))))))))).1 refl)

-- 3. Never at the first row, or at any.
never_3 : (first : List Row → ℕ) → WrongRecord (never_on first) overlap
never_3 first =
    shut overlap overlap_accepted (λ t. never_record 0 (first t)) (λ t. [])
    (λ e. omega (arith, case_1, (demand_3 overlap overlap_accepted).never_to (outcome-of (sym e))))

never_first_row : WrongRecord never_at_first zero_is_one
never_first_row =
    shut zero_is_one never_accepted (λ t. never_record 0 0) (λ t. [])
    (λ e. omega (arith, ap (λ (r : Record). r.row) (e ∙ never_is)))

never_equation_row : WrongRecord never_at_first_equation zero_and_one
unfolding wrong_computed next_equation
never_equation_row =
    shut zero_and_one zero_one_accepted (λ t. never_record 0 (next_equation t 0 (length t))) (λ t. [])
    (λ e. omega (arith, ap (λ (r : Record). r.row) (e ∙ zero_one_is)))

-- 4. Always.
always_3 : WrongRecord always_always overlap
unfolding wrong_computed
always_3 =
    shut overlap overlap_accepted (λ t. always_record (bits_of t)) (λ t. [])
    (λ e. omega (arith, case_1, (demand_3 overlap overlap_accepted).always_to (outcome-of (sym e))))

always_none : WrongRecord always_always zero_is_one
always_none =
    shut zero_is_one never_accepted (λ t. always_record (bits_of t)) (λ t. [])
    (λ e. omega (arith, outcome-of e, (demand_3 zero_is_one never_accepted).never_of case_4))

-- 5. Invented ties: by the sum free would be 0.
pair_a_tie : WrongRecord every_pair_aTie overlap_twice
unfolding wrong_computed
pair_a_tie =
    shut overlap_twice twice_accepted (solved_as solved_rows pairs) solved_rows
    (λ e. let same : solved_record (solved_rows (rows_of overlap_twice)) (pairs (rows_of overlap_twice)) ≡ answer_record (rows_of overlap_twice) =
    sym (solved-as overlap_twice twice_accepted solved_rows pairs (outcome-of twice_is)) ∙ e in
    let sum = (demand_3 overlap_twice twice_accepted).free_and-ties (λ o. omega (arith, o, outcome-of same)) in
    let none : (answer_record (rows_of overlap_twice)).free ≡ 0 = omega (arith, sum, ap (λ (r : Record). r.ties) same) in
    omega (arith, twice_16, (demand_3 overlap_twice twice_accepted).solved_count (outcome-of (sym same)) ∙ ap (λ (n : ℕ). 2 ^ n) none))
  where
    pairs : List Row → ℕ
    pairs t = length (pairs_together (equation_pairs t))

invented_ties : List Row → ℕ
invented_ties t = bits_of t - free_bits (invented_rows t)

invented_is : solved_as invented_rows invented_ties (rows_of overlap) ≡ solved_record (invented_rows (rows_of overlap)) (invented_ties (rows_of overlap))
invented_is = solved-as overlap overlap_accepted invented_rows invented_ties (outcome-of overlap_is)

tie_invented : WrongRecord invented_tie overlap
unfolding wrong_computed invented_ties
tie_invented =
    shut overlap overlap_accepted (solved_as invented_rows invented_ties) invented_rows
    (λ e. let same : solved_record (invented_rows (rows_of overlap)) (invented_ties (rows_of overlap)) ≡ answer_record (rows_of overlap) = sym invented_is ∙ e in
    omega (arith, case_1, (demand_3 overlap overlap_accepted).solved_count (outcome-of (sym same)) ∙ ap (λ (r : Record). 2 ^ r.free) (sym same)))

-- Its rows are of one bit each, and the first two are one fresh piece. Bit 7 alone is 1: that meets the table, and no filling gives it.
abbrev single_bits : List AnswerRow
single_bits = bit 0 ∷ bit 0 ∷ bit 1 ∷ bit 0 ∷ bit 1 ∷ bit 0 ∷ bit 1 ∷ bit 2 ∷ []

invented-rows : invented_rows (rows_of overlap) ≡ single_bits
unfolding wrong_computed
invented-rows = refl

not_filled : (f : List ℕ) → length f ≡ 3 → instantiate single_bits f ≡ 1 ∷ replicate 7 0 → ⊥
unfolding wrong_computed
not_filled [] l e = omega (arith, l)
not_filled (x ∷ f) l e = let z : ◌≡◌ {A = ℕ} 0 1 = cc in omega arith

filled_not : Filled (rows_of overlap) single_bits → ⊥
unfolding wrong_computed
filled_not filled =
    let only = filled.one_filling (1 ∷ replicate 7 0) (on (off (off (off (off (off (off (off done)))))))) refl in
    not_filled only.filling (assignment_length only.bits) only.gives

tie_invented_2 : Breaks2 invented_tie overlap
unfolding invented_ties
tie_invented_2 =
    breaks overlap overlap_accepted (solved_as invented_rows invented_ties) invented_rows (invented_ties (rows_of overlap)) invented_is (rw invented-rows (omega arith))
    (λ filled. filled_not (rw invented-rows at filled))

-- 6. No answer table.
numbers_30 : length (answer_numbers (solved_rows (rows_of overlap))) ≡ 30
numbers_30 =
    numbers_length (solved_rows (rows_of overlap))
    ∙ ap (λ (n : ℕ). n * 6) (sym ((demand_3 overlap overlap_accepted).solved_pieces (outcome-of overlap_is)) ∙ ap (λ (r : Record). r.pieces) overlap_is)

no_table_before : (old : List ℕ) (work_room : ℕ) → 24576 ≤ length old → 16384 ≤ work_room
    → no_answer_table.left overlap old work_room ≡ answer_after overlap old work_room → take 30 old ≡ answer_numbers (solved_rows (rows_of overlap))
unfolding answer_after
no_table_before old work_room room memory e =
    let new : List ℕ = answer_numbers (solved_rows (rows_of overlap)) in
    let after : answer_after overlap old work_room ≡ new ++ drop (length new) old =
    rw (right_found overlap overlap_accepted old work_room room memory, overlap_is) (overwrite-fits new old (omega (arith, numbers_30))) in
    ap (λ (l : List ℕ). take 30 l) (e ∙ after) ∙ take_at new (drop (length new) old) 30 numbers_30

zeros_taken : (n : ℕ) → 24576 ≤ n → take 30 (replicate n 0) ≡ replicate {A = ℕ} 30 0
zeros_taken n h =
    let parts : n ≡ 30 + (n - 30) = omega arith in
    ap (λ (m : ℕ). take 30 (replicate {A = ℕ} m 0)) parts ∙ ap (λ (l : List ℕ). take 30 l) (sym (replicate-append-replicate 30 (n - 30) 0))
    ∙ take_at (replicate 30 0) (replicate (n - 30) 0) 30 refl

no_table : (n work_room : ℕ) → 24576 ≤ n → 16384 ≤ work_room
    → no_answer_table.left overlap (replicate n 0) work_room ≡ answer_after overlap (replicate n 0) work_room → ⊥
unfolding table_computed
no_table n work_room room memory e =
    let numbers : replicate 30 0 ≡ answer_numbers (solved_rows (rows_of overlap)) =
    sym (zeros_taken n room) ∙ no_table_before (replicate n 0) work_room (rw length-replicate room) memory e in
    omega (arith, ap (λ (l : List ℕ). get_or l 1 0) (numbers ∙ (by_classes overlap overlap_accepted).1))

no_table_2 : (n work_room : ℕ) → 24576 ≤ n → 16384 ≤ work_room
    → Filled (rows_of overlap) (rows_read no_answer_table overlap (replicate n 0) work_room) → ⊥
unfolding wrong_computed answer_rows_of
no_table_2 n work_room room memory filled =
    let zeros : Filled (rows_of overlap) (answer_rows_of (replicate 30 0)) =
    rw (right_found overlap overlap_accepted (replicate n 0) work_room (rw length-replicate room) memory, overlap_is, zeros_taken n room) at filled in
    omega (arith, assignment_length (zeros.every_filling [] done).0)

-- 7. All refused.
none_accepted : first_fault [] ≡ Accepted
unfolding fault_computed
none_accepted = refl

all_refused_3 : (number r : ℕ) → 2 < number → WrongRecord (all_refused number r) []
all_refused_3 number r high old work_room room memory e =
    omega (arith, (demand_3 [] none_accepted).one_of_three, outcome-of (e ∙ right_found [] none_accepted old work_room room memory))

-- 8. One sweep.
swept_ties : List Row → ℕ
swept_ties t = bits_of t - free_bits (swept_rows t)

swept_is : solved_as swept_rows swept_ties (rows_of chain) ≡ solved_record (swept_rows (rows_of chain)) (swept_ties (rows_of chain))
swept_is = solved-as chain chain_accepted swept_rows swept_ties (outcome-of chain_is)

swept : WrongRecord one_sweep chain
unfolding wrong_computed swept_ties
swept =
    shut chain chain_accepted (solved_as swept_rows swept_ties) swept_rows
    (λ e. omega (arith, ap (λ (r : Record). r.free) (sym swept_is ∙ e ∙ chain_is)))

-- with all fresh bits 1 the top halves of u and v are ones, that of w zeros
swept_2 : Breaks2 one_sweep chain
unfolding wrong_computed swept_ties
swept_2 =
    breaks chain chain_accepted (solved_as swept_rows swept_ties) swept_rows (swept_ties (rows_of chain)) swept_is (omega arith)
    (λ filled. not_both (filled.every_filling (replicate 8 1) (on (on (on (on (on (on (on (on done))))))))).1 refl)

swept_first : RightAt one_sweep chain_back
unfolding wrong_computed swept_ties
swept_first =
    right_at chain_back back_accepted (solved_as swept_rows swept_ties) swept_rows
    (solved-as chain_back back_accepted swept_rows swept_ties (outcome-of back_is) ∙ sym back_is)
    (sym (by_classes chain_back back_accepted).1)

-- All of them.
pub shut_out : ShutOut
shut_out =
    record {
      first_equation_3 = first_equation_3;
      first_equation_2 = first_equation_2;
      variable_free = variable_free;
      variable_free_2 = variable_free_2;
      free_system = whole_system;
      free_sum = whole_free;
      never_first_3 = never_3 (λ t. 0);
      never_equation_3 = never_3 (λ t. next_equation t 0 (length t));
      never_first_row = never_first_row;
      never_equation_row = never_equation_row;
      always_3 = always_3;
      always_none = always_none;
      pair_a_tie = pair_a_tie;
      tie_invented = tie_invented;
      tie_invented_2 = tie_invented_2;
      no_table = no_table;
      no_table_2 = no_table_2;
      no_table_before = no_table_before;
      all_refused_3 = all_refused_3;
      swept = swept;
      swept_2 = swept_2;
      swept_first = swept_first;
    }
