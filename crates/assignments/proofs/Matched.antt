-- The pattern call with the table lent, for every input (document 02, (x)): (a) `made_meets`, (b) `all_made`, (c) `solved_then_made`, (d) `refused_46`,
-- (e) `empty_refused`, (f) `work-after`, (g) `other_sheet`, (h) `revised_made`. Assumes nothing.
use mathlib.Core.Path.{◌≡◌, refl, sym, ◌∙◌, ap, ap₂, subst}
use mathlib.Core.Bool.{Bool, true, false, not}
use mathlib.Core.List.{List, [], ◌∷◌}
use mathlib.Core.Logic.{◌≢◌, ◌⊎◌, inl, inr, ⊎_elim}
use Prim.Native.Nat.{ℕ, zero, suc, ◌*◌, ◌^◌, ◌≤◌, ◌<◌}
use native.Mathlib.Omega.{arith}
use lib.Dec.{eqb, leb, ltb}
use lib.ListN.{length, get_or, take, replicate}
use borrow.Author.Tests.{eqb-true, eqb-false, leb-true, ltb-false, ne_eqb, lt-ltb, le-ltb, not-true, not-false}
use Rattle.laws.specs.Lists.{all_bits, distinct}
use Rattle.laws.proofs.Bools.{not_both, and_parts, or_first, or_second, or_right}
use Rattle.laws.proofs.Numbers.{dec_eq, lt_or_le}
use Rattle.terms.specs.declared.Record.{Record}
use Rattle.terms.specs.declared.Row.{Row}
use Rattle.std.specs.Prelude.{Ok, Err}
use Rattle.terms.specs.declared.Fault.TheVariants.{Shape, Kind, Unused, Named, Width, Value, Bounds, Count}
use Rattle.terms.specs.Acceptance.{Exactly}
use Rattle.terms.specs.Assignments.{Assignment, count}
use Rattle.terms.specs.Calls.{refusal, completed, fault_number, stop_at, stopped}
use Rattle.terms.specs.Faults.{Found, Accepted, is_accepted, first_fault}
use Rattle.terms.specs.Table.{rows_of, row_numbers, bits_of, same_word, satisfies, counting}
use Rattle.terms.proofs.AcceptedTable.{fault_none, fault_high}
use Rattle.terms.proofs.Assignments.{assignment_of}
use Rattle.terms.proofs.Counting.{counting_accepted}
use Rattle.terms.proofs.RowNumbers.{rows_written}
use Rattle.terms.proofs.Satisfies.{same-word, word_same}
use Rattle.answers.specs.Answer.{variable_widths, answer_rows_of, answer_numbers, numbers_from, free_bits, fresh_pieces, fresh_numbers, fresh_start}
use Rattle.answers.specs.Solve.{solved_rows, answer_record, solve_record, answer_after}
use Rattle.answers.proofs.AnswerNumbers.{rows_back}
use Rattle.answers.proofs.Demands.{demand_3}
use Rattle.answers.proofs.GeneralSystems.{width_sum}
use Rattle.answers.proofs.Lent.{no_answer_room, no_work_room, call_record, call_answer, solve_accepts}
use Rattle.answers.proofs.Revised.{same_counting}
use Rattle.answers.proofs.TwoTables.{same_rows_same_patterns}
use Rattle.answers.proofs.Variables.{widths_sum}
use Rattle.assignments.specs.Form.{pattern_bits, rows_fine, homes_fine, has_form}
use Rattle.assignments.specs.Call.{wrong_fresh, pattern_record, pattern_after}
use Rattle.assignments.specs.Made.{Makes, pattern_of}
use Rattle.assignments.specs.Matching.{other_answer, make_stops, make_record, make_after, make_work, own_answer, pattern_made, Meets, AllMade, solved_answer, WorkAfter, NotSamePatterns, NoneMade, SameMade}
use Rattle.assignments.proofs.Theorems.{pattern_length, solved_form, made_from_solved}

-- ---- the output

-- a call that stops nowhere is accepted
passes : (stops : List (Bool × Record)) (accepted : Record) → stopped stops ≡ false → stop_at stops accepted ≡ accepted
unfolding stop_at stopped
passes [] accepted h = refl
passes (s ∷ stops) accepted h = rw (or_first s.0 (stopped stops) h) (passes stops accepted (or_second s.0 (stopped stops) h))

-- a refusal leaves the output as it was
pub refused_output : (table answer fresh old : List ℕ) (work_room : ℕ) → (make_record table answer fresh (length old) work_room).outcome ≢ 0
    → make_after table answer fresh old work_room ≡ old
unfolding make_record make_after
refused_output table answer fresh old work_room n = go (stopped (make_stops table answer fresh (length old) work_room)) refl
  where
    go : (b : Bool) → stopped (make_stops table answer fresh (length old) work_room) ≡ b → make_after table answer fresh old work_room ≡ old
    go true h = rw h refl
    go false h = absurd (n (ap (λ (r : Record). r.outcome) (passes (make_stops table answer fresh (length old) work_room) _ h)))

-- ---- another answer

-- An answer is another exactly if the table has none, or it is not the table's.
other_exactly : (table answer : List ℕ) → Exactly (other_answer table answer ≡ true) (((answer_record (rows_of table)).outcome ≢ 2) ⊎ (answer ≢ own_answer table))
unfolding other_answer
other_exactly table answer =
    record {
      to = λ h. to (eqb (answer_record (rows_of table)).outcome 2) refl h;
      of = λ h. ⊎_elim (λ n. rw (ne_eqb (answer_record (rows_of table)).outcome 2 n) refl) (λ n. or_right (not (eqb (answer_record (rows_of table)).outcome 2)) _ (ap not (differs n (same_word (own_answer table) answer) refl))) h;
    }
  where
    to : (b : Bool) → eqb (answer_record (rows_of table)).outcome 2 ≡ b → other_answer table answer ≡ true
        → ((answer_record (rows_of table)).outcome ≢ 2) ⊎ (answer ≢ own_answer table)
    to true e h =
        let z : not (same_word (own_answer table) answer) ≡ true = rw e at h in
        inr (λ q. not_both (ap (same_word (own_answer table)) q ∙ word_same (own_answer table)) (not-true _ z))
    to false e h = inl (eqb-false (answer_record (rows_of table)).outcome 2 e)

    differs : answer ≢ own_answer table → (b : Bool) → same_word (own_answer table) answer ≡ b → b ≡ false
    differs n true e = absurd (n (sym (same-word (own_answer table) answer e)))
    differs n false e = refl

-- The table's own answer is no other, and no other is the table's.
own_right : (table : List ℕ) → (answer_record (rows_of table)).outcome ≡ 2 → other_answer table (own_answer table) ≡ false
unfolding other_answer
own_right table solved = rw (solved, word_same (own_answer table)) refl

right_own : (table answer : List ℕ) → other_answer table answer ≡ false → ((answer_record (rows_of table)).outcome ≡ 2) × (own_answer table ≡ answer)
unfolding other_answer
right_own table answer h =
    let a = or_first (not (eqb (answer_record (rows_of table)).outcome 2)) _ h in
    let b = or_second (not (eqb (answer_record (rows_of table)).outcome 2)) _ h in
    (eqb-true (answer_record (rows_of table)).outcome 2 (not-false _ a), same-word (own_answer table) answer (not-false _ b))

-- (d) With room, whatever the fresh bytes and the output.
other_refused : (table answer : List ℕ) → first_fault table ≡ Accepted → has_form answer ≡ true → other_answer table answer ≡ true
    → (fresh : List ℕ) (room work_room : ℕ) → 16384 ≤ work_room → make_record table answer fresh room work_room ≡ refusal 46 0
unfolding make_record make_stops stop_at
other_refused table answer accepted form other fresh room work_room memory = rw (le-ltb work_room 16384 memory, accepted, form, other) refl

-- that of the right answer is 10, 34, 32 or accepted
right_outcome : (table answer fresh : List ℕ) (room work_room : ℕ) → first_fault table ≡ Accepted → has_form answer ≡ true → other_answer table answer ≡ false
    → ((make_record table answer fresh room work_room).outcome ≢ 33) × ((make_record table answer fresh room work_room).outcome ≢ 46)
unfolding make_record make_stops stop_at
right_outcome table answer fresh room work_room accepted form same =
    go (ltb work_room 16384) refl (wrong_fresh answer fresh) refl (ltb room (pattern_bits (answer_rows_of answer))) refl
  where
    apart : (n : ℕ) → (make_record table answer fresh room work_room).outcome ≡ n → n ≢ 33 → n ≢ 46
        → ((make_record table answer fresh room work_room).outcome ≢ 33) × ((make_record table answer fresh room work_room).outcome ≢ 46)
    apart n e a b = (λ z. a (sym e ∙ z), λ z. b (sym e ∙ z))

    go : (a : Bool) → ltb work_room 16384 ≡ a → (b : Bool) → wrong_fresh answer fresh ≡ b → (c : Bool) → ltb room (pattern_bits (answer_rows_of answer)) ≡ c
        → ((make_record table answer fresh room work_room).outcome ≢ 33) × ((make_record table answer fresh room work_room).outcome ≢ 46)
    go true l b k c j = apart 10 (rw l refl) (omega arith) (omega arith)
    go false l true k c j = apart 34 (rw (l, accepted, form, same, k) refl) (omega arith) (omega arith)
    go false l false k true j = apart 32 (rw (l, accepted, form, same, k, j) refl) (omega arith) (omega arith)
    go false l false k false j = apart 0 (rw (l, accepted, form, same, k, j) refl) (omega arith) (omega arith)

pub refused_46 : (table answer : List ℕ) → first_fault table ≡ Accepted → has_form answer ≡ true → (fresh : List ℕ) (room work_room : ℕ) → 16384 ≤ work_room
    → Exactly ((make_record table answer fresh room work_room).outcome ≡ 46) (((answer_record (rows_of table)).outcome ≢ 2) ⊎ (answer ≢ own_answer table))
refused_46 table answer accepted form fresh room work_room memory =
    record {
      to = λ e. (other_exactly table answer).to (to (other_answer table answer) refl e);
      of = λ n. ap (λ (r : Record). r.outcome) (other_refused table answer accepted form ((other_exactly table answer).of n) fresh room work_room memory);
    }
  where
    to : (b : Bool) → other_answer table answer ≡ b → (make_record table answer fresh room work_room).outcome ≡ 46 → b ≡ true
    to true h e = refl
    to false h e = absurd ((right_outcome table answer fresh room work_room accepted form h).1 e)

-- (e)
empty_form : has_form [] ≡ true
unfolding has_form rows_fine homes_fine same_word answer_numbers numbers_from answer_rows_of
empty_form = refl

module _ (table : List ℕ) (accepted : first_fault table ≡ Accepted) where
  -- an answer has rows: without them nothing would be free or fixed, and the table would be always
  some_rows : (answer_record (rows_of table)).outcome ≡ 2 → [] ≢ own_answer table
  some_rows solved e =
      let D = demand_3 table accepted in
      let none : solved_rows (rows_of table) ≡ [] = sym (rows_back (solved_rows (rows_of table))) ∙ ap answer_rows_of (sym e) ∙ (unfold answer_rows_of in refl) in
      let bits : bits_of (rows_of table) ≡ 0 = sym (pattern_length table accepted solved) ∙ ap pattern_bits none ∙ (unfold pattern_bits in refl) in
      let free : (answer_record (rows_of table)).free ≡ 0 = D.solved_free solved ∙ ap free_bits none ∙ (unfold free_bits fresh_pieces fresh_numbers fresh_start distinct in refl) in
      let all : count (bits_of (rows_of table)) (satisfies (rows_of table)) ≡ 2 ^ bits_of (rows_of table) =
      D.solved_count solved ∙ ap (λ (n : ℕ). 2 ^ n) (free ∙ sym bits) in
      omega (arith, solved, D.always_of all)

  pub empty_refused : (fresh : List ℕ) (room work_room : ℕ) → 16384 ≤ work_room → make_record table [] fresh room work_room ≡ refusal 46 0
  unfolding make_record make_stops stop_at
  empty_refused fresh room work_room memory =
      let other = (other_exactly table []).of (⊎_elim (λ e. inr (some_rows e)) inl (dec_eq (answer_record (rows_of table)).outcome 2)) in
      rw (le-ltb work_room 16384 memory, accepted, empty_form, other) refl

-- (c)
pub solved_then_made : (table old work : List ℕ) → (solve_record table (length old) (length work)).outcome ≡ 2 → (fresh : List ℕ) (room work_room : ℕ)
    → ((make_record table (solved_answer table old (length work)) fresh room work_room).outcome ≢ 33)
    × ((make_record table (solved_answer table old (length work)) fresh room work_room).outcome ≢ 46)
solved_then_made table old work two fresh room work_room = ⊎_elim
    (λ l. absurd (omega (arith, two, ap outcome (no_answer_room table (length old) (length work) l))))
    (λ room. ⊎_elim (λ l. absurd (omega (arith, two, ap outcome (no_work_room table (length old) (length work) l)))) (λ memory. with_room room memory) (lt_or_le (length work) 16384))
    (lt_or_le (length old) 24576)
  where
    outcome : Record → ℕ
    outcome r = r.outcome

    with_room : 24576 ≤ length old → 16384 ≤ length work → ((make_record table (solved_answer table old (length work)) fresh room work_room).outcome ≢ 33)
        × ((make_record table (solved_answer table old (length work)) fresh room work_room).outcome ≢ 46)
    with_room enough memory =
        let accepted = (solve_accepts table (length old) (length work) enough memory).to (omega (arith, two)) in
        let told = call_record table accepted old work enough memory in
        let solved : (answer_record (rows_of table)).outcome ≡ 2 = ap outcome (sym told) ∙ two in
        let own : solved_answer table old (length work) ≡ own_answer table =
        ap (λ (r : Record). take (r.pieces * 6) (answer_after table old (length work))) told ∙ call_answer table accepted old work enough memory solved in
        rw own (right_outcome table (own_answer table) fresh room work_room accepted (solved_form table accepted solved) (own_right table solved))

-- without room it is 10
short_area : (table answer fresh : List ℕ) (room work_room : ℕ) → work_room < 16384 → make_record table answer fresh room work_room ≡ refusal 10 0
unfolding make_record make_stops stop_at
short_area table answer fresh room work_room l = rw (lt-ltb work_room 16384 l) refl

-- (g)
module _ (table other : List ℕ) (accepted : first_fault table ≡ Accepted) (good : first_fault other ≡ Accepted) (apart : NotSamePatterns table other) where
  not_own : (answer_record (rows_of other)).outcome ≡ 2 → ((answer_record (rows_of table)).outcome ≢ 2) ⊎ (own_answer other ≢ own_answer table)
  not_own solved = ⊎_elim
      (λ two. inr (λ e. apart (same_rows_same_patterns table other accepted good two solved
      (sym (rows_back (solved_rows (rows_of table))) ∙ ap answer_rows_of (sym e) ∙ rows_back (solved_rows (rows_of other)))).1))
      inl
      (dec_eq (answer_record (rows_of table)).outcome 2)

  none_made : (answer_record (rows_of other)).outcome ≡ 2 → NoneMade table other
  none_made solved = record {
    refused = told;
    not_made = λ fresh room work_room e. ⊎_elim (λ l. absurd (omega (arith, e, ap outcome (short_area table (own_answer other) fresh room work_room l))))
        (λ memory. absurd (omega (arith, e, ap outcome (told fresh room work_room memory)))) (lt_or_le work_room 16384);
  }
    where
      outcome : Record → ℕ
      outcome r = r.outcome

      told : (fresh : List ℕ) (room work_room : ℕ) → 16384 ≤ work_room → make_record table (own_answer other) fresh room work_room ≡ refusal 46 0
      told = other_refused table (own_answer other) accepted (solved_form other good solved) ((other_exactly table (own_answer other)).of (not_own solved))

-- Two accepted tables that have not the same patterns: neither makes one from the other's answer.
pub other_sheet : (table other : List ℕ) → first_fault table ≡ Accepted → first_fault other ≡ Accepted → variable_widths (rows_of table) ≡ variable_widths (rows_of other)
    → NotSamePatterns table other
    → ((answer_record (rows_of other)).outcome ≡ 2 → NoneMade table other) × ((answer_record (rows_of table)).outcome ≡ 2 → NoneMade other table)
other_sheet table other accepted good same apart = (none_made table other accepted good apart, none_made other table good accepted (λ h. apart (λ p a. sym (h p (subst (λ (n : ℕ). Assignment n p) bits a)))))
  where
    bits : bits_of (rows_of table) ≡ bits_of (rows_of other)
    bits = sym (widths_sum (rows_of table)) ∙ ap width_sum same ∙ widths_sum (rows_of other)

-- ---- (f) the work area

-- the numbers past 33
abbrev Late : ℕ → Type 0
Late n = (n ≡ 46) ⊎ ((n ≡ 34) ⊎ ((n ≡ 32) ⊎ (n ≡ 0)))

late_number : (n m : ℕ) → n ≡ m → (m ≢ 46) × ((m ≢ 34) × ((m ≢ 32) × (m ≢ 0))) → Late n → ⊥
late_number n m e h (inl z) = h.0 (sym e ∙ z)
late_number n m e h (inr (inl z)) = h.1.0 (sym e ∙ z)
late_number n m e h (inr (inr (inl z))) = h.1.1.0 (sym e ∙ z)
late_number n m e h (inr (inr (inr z))) = h.1.1.1 (sym e ∙ z)

-- none of them is that of a fault
fault_early : (f : Found) → is_accepted f ≡ false → (fault_number f ≢ 46) × ((fault_number f ≢ 34) × ((fault_number f ≢ 32) × (fault_number f ≢ 0)))
fault_early (Ok x) h = let z : ◌≡◌ {A = ℕ} 0 1 = cc in absurd (omega arith)
fault_early (Err Shape) h = (omega arith, (omega arith, (omega arith, omega arith)))
fault_early (Err (Kind r)) h = (omega arith, (omega arith, (omega arith, omega arith)))
fault_early (Err (Unused r)) h = (omega arith, (omega arith, (omega arith, omega arith)))
fault_early (Err (Named r)) h = (omega arith, (omega arith, (omega arith, omega arith)))
fault_early (Err (Width r)) h = (omega arith, (omega arith, (omega arith, omega arith)))
fault_early (Err (Value r)) h = (omega arith, (omega arith, (omega arith, omega arith)))
fault_early (Err (Bounds r)) h = (omega arith, (omega arith, (omega arith, omega arith)))
fault_early (Err (Count r)) h = (omega arith, (omega arith, (omega arith, omega arith)))

module _ (table answer fresh : List ℕ) (room : ℕ) (work : List ℕ) where
  -- it is kept, and the number is none of those; or it is 0, and the number is one of those
  two_ways : ((make_work table answer fresh room work ≡ work) × (Late (make_record table answer fresh room (length work)).outcome → ⊥)) ⊎ ((make_work table answer fresh room work ≡ replicate (length work) 0) × Late (make_record table answer fresh room (length work)).outcome)
  unfolding make_record make_work make_stops stop_at stopped
  two_ways = go (ltb (length work) 16384) refl (is_accepted (first_fault table)) refl (has_form answer) refl
    where
      last : (a b c : Bool) → ltb (length work) 16384 ≡ false → is_accepted (first_fault table) ≡ true → has_form answer ≡ true
          → other_answer table answer ≡ a → wrong_fresh answer fresh ≡ b → ltb room (pattern_bits (answer_rows_of answer)) ≡ c → Late (make_record table answer fresh room (length work)).outcome
      last true b c l m n h k j = inl (rw (l, m, n, h) refl)
      last false true c l m n h k j = inr (inl (rw (l, m, n, h, k) refl))
      last false false true l m n h k j = inr (inr (inl (rw (l, m, n, h, k, j) refl)))
      last false false false l m n h k j = inr (inr (inr (rw (l, m, n, h, k, j) refl)))

      go : (a : Bool) → ltb (length work) 16384 ≡ a → (b : Bool) → is_accepted (first_fault table) ≡ b → (c : Bool) → has_form answer ≡ c
          → ((make_work table answer fresh room work ≡ work) × (Late (make_record table answer fresh room (length work)).outcome → ⊥)) ⊎ ((make_work table answer fresh room work ≡ replicate (length work) 0) × Late (make_record table answer fresh room (length work)).outcome)
      go true l b m c n = inl (rw l refl, late_number (make_record table answer fresh room (length work)).outcome 10 (rw l refl) (omega arith, (omega arith, (omega arith, omega arith))))
      go false l false m c n = inl (rw (l, m) refl, late_number (make_record table answer fresh room (length work)).outcome (fault_number (first_fault table)) (rw (l, m) refl) (fault_early (first_fault table) m))
      go false l true m false n = inl (rw (l, m, n) refl, late_number (make_record table answer fresh room (length work)).outcome 33 (rw (l, m, n) refl) (omega arith, (omega arith, (omega arith, omega arith))))
      go false l true m true n = inr (rw (l, m, n) refl, last _ _ _ l m n refl refl refl)

  zeros : Late (make_record table answer fresh room (length work)).outcome → make_work table answer fresh room work ≡ replicate (length work) 0
  zeros l = ⊎_elim (λ k. absurd (k.1 l)) (λ k. k.0) two_ways

  -- (f)
  pub work-after : WorkAfter table answer fresh room work
  work-after =
      record {
        accepted = λ e. zeros (inr (inr (inr e)));
        past_33 = λ e. zeros (late e);
        kept = λ a b c d. ⊎_elim (λ k. k.0) (λ k. absurd (none a b c d k.1)) two_ways;
      }
    where
      late : {n : ℕ} → (n ≡ 46) ⊎ ((n ≡ 34) ⊎ (n ≡ 32)) → Late n
      late (inl e) = inl e
      late (inr (inl e)) = inr (inl e)
      late (inr (inr e)) = inr (inr (inl e))

      none : {n : ℕ} → n ≢ 0 → n ≢ 46 → n ≢ 34 → n ≢ 32 → Late n → ⊥
      none a b c d (inl e) = b e
      none a b c d (inr (inl e)) = c e
      none a b c d (inr (inr (inl e))) = d e
      none a b c d (inr (inr (inr e))) = a e

-- ---- revised equations

-- What counts in a table is stopped where the table is.
same_stops : (table : List ℕ) → first_fault table ≡ Accepted → (answer fresh : List ℕ) (room work_room : ℕ)
    → make_stops (row_numbers (counting (rows_of table))) answer fresh room work_room ≡ make_stops table answer fresh room work_room
unfolding make_stops other_answer
same_stops table accepted answer fresh room work_room =
    let same = same_counting table accepted in
    rw (counting_accepted table accepted, accepted, rows_written (counting (rows_of table)), same.same_record, same.same_rows) refl

-- (h)
pub revised_made : (table : List ℕ) → first_fault table ≡ Accepted → (answer fresh old work : List ℕ) → SameMade table answer fresh old work
unfolding make_record make_after make_work
revised_made table accepted answer fresh old work =
    record {
      same_record = rw (same_stops table accepted answer fresh (length old) (length work)) refl;
      same_output = rw (same_stops table accepted answer fresh (length old) (length work)) refl;
      same_area = rw (same_stops table accepted answer fresh (length old) (length work)) refl;
    }

-- ---- the right answer is filled

module _ (table answer fresh old : List ℕ) (work_room : ℕ) (memory : 16384 ≤ work_room) (accepted : first_fault table ≡ Accepted) (form : has_form answer ≡ true)
    (same : other_answer table answer ≡ false) where
  pub right_record : make_record table answer fresh (length old) work_room ≡ pattern_record answer fresh (length old)
  unfolding make_record make_stops stop_at pattern_record
  right_record = rw (le-ltb work_room 16384 memory, accepted, form, same) refl

  pub right_after : make_after table answer fresh old work_room ≡ pattern_after answer fresh old
  unfolding make_after make_stops stopped pattern_after pattern_record stop_at
  right_after = go (wrong_fresh answer fresh) refl (ltb (length old) (pattern_bits (answer_rows_of answer))) refl
    where
      go : (a : Bool) → wrong_fresh answer fresh ≡ a → (b : Bool) → ltb (length old) (pattern_bits (answer_rows_of answer)) ≡ b
          → make_after table answer fresh old work_room ≡ pattern_after answer fresh old
      go true h b k = rw (le-ltb work_room 16384 memory, accepted, form, same, h) refl
      go false h true k = rw (le-ltb work_room 16384 memory, accepted, form, same, h, k) refl
      go false h false k = rw (le-ltb work_room 16384 memory, accepted, form, same, h, k) refl

-- ---- patterns made

-- bytes 0 and 1 are an assignment
bits-of : (f : List ℕ) → all_bits f ≡ true → Assignment (length f) f
unfolding all_bits
bits-of f h = assignment_of (length f) f refl (λ i l. at f h i l)
  where
    at : (f : List ℕ) → all_bits f ≡ true → (i : ℕ) → i < length f → get_or f i 0 ≤ 1
    at [] h i l = absurd (omega arith)
    at (b ∷ f) h zero l = leb-true b 1 (and_parts (leb b 1) (all_bits f) h).0
    at (b ∷ f) h (suc i) l = at f (and_parts (leb b 1) (all_bits f) h).1 i (omega arith)

-- a call that is accepted stops nowhere
record Went (table answer fresh : List ℕ) (room work_room : ℕ) : Type 0 where
  memory : 16384 ≤ work_room
  accepted : first_fault table ≡ Accepted
  form : has_form answer ≡ true
  right : other_answer table answer ≡ false
  bytes : wrong_fresh answer fresh ≡ false
  fits : pattern_bits (answer_rows_of answer) ≤ room

went : (table answer fresh : List ℕ) (room work_room : ℕ) → (make_record table answer fresh room work_room).outcome ≡ 0 → Went table answer fresh room work_room
unfolding make_record make_stops stop_at
went table answer fresh room work_room e =
    go (ltb work_room 16384) refl (is_accepted (first_fault table)) refl (has_form answer) refl (other_answer table answer) refl (wrong_fresh answer fresh) refl
    (ltb room (pattern_bits (answer_rows_of answer))) refl
  where
    go : (a : Bool) → ltb work_room 16384 ≡ a → (b : Bool) → is_accepted (first_fault table) ≡ b → (c : Bool) → has_form answer ≡ c → (d : Bool) → other_answer table answer ≡ d
        → (f : Bool) → wrong_fresh answer fresh ≡ f → (g : Bool) → ltb room (pattern_bits (answer_rows_of answer)) ≡ g → Went table answer fresh room work_room
    go true l b m c n d h f k g j = let o : (make_record table answer fresh room work_room).outcome ≡ 10 = rw l refl in absurd (omega (arith, e, o))
    go false l false m c n d h f k g j =
        let o : (make_record table answer fresh room work_room).outcome ≡ fault_number (first_fault table) = rw (l, m) refl in
        absurd (omega (arith, e, o, fault_high (first_fault table) m))
    go false l true m false n d h f k g j = let o : (make_record table answer fresh room work_room).outcome ≡ 33 = rw (l, m, n) refl in absurd (omega (arith, e, o))
    go false l true m true n true h f k g j = let o : (make_record table answer fresh room work_room).outcome ≡ 46 = rw (l, m, n, h) refl in absurd (omega (arith, e, o))
    go false l true m true n false h true k g j = let o : (make_record table answer fresh room work_room).outcome ≡ 34 = rw (l, m, n, h, k) refl in absurd (omega (arith, e, o))
    go false l true m true n false h false k true j =
        let o : (make_record table answer fresh room work_room).outcome ≡ 32 = rw (l, m, n, h, k, j) refl in absurd (omega (arith, e, o))
    go false l true m true n false h false k false j =
        record {
          memory = ltb-false work_room 16384 l;
          accepted = fault_none (first_fault table) m;
          form = n;
          right = h;
          bytes = k;
          fits = ltb-false room (pattern_bits (answer_rows_of answer)) j;
        }

module _ (table : List ℕ) (accepted : first_fault table ≡ Accepted) (solved : (answer_record (rows_of table)).outcome ≡ 2) where
  abbrev t : List Row
  t = rows_of table

  abbrev own : List ℕ
  own = own_answer table

  -- what is said of a filling holds of the call on the table's own answer
  module _ (f old work : List ℕ) (memory : 16384 ≤ length work) where
    as_filled : make_record table (own_answer table) f (length old) (length work) ≡ pattern_record (own_answer table) f (length old)
    as_filled = right_record table own f old (length work) memory accepted (solved_form table accepted solved) (own_right table solved)

    is_made : Makes t f old → pattern_made table (own_answer table) f old (length work) ≡ pattern_of t f old
    is_made M =
        ap₂ (λ (n : ℕ) (l : List ℕ). take n l) (ap (λ (r : Record). r.free) (as_filled ∙ M.returns))
        (right_after table own f old (length work) memory accepted (solved_form table accepted solved) (own_right table solved))

    made : Assignment (answer_record (rows_of table)).free f → bits_of (rows_of table) ≤ length old
        → (make_record table (own_answer table) f (length old) (length work) ≡ completed 0 (bits_of (rows_of table))) × Meets table (pattern_made table (own_answer table) f old (length work))
    made bits room =
        let M = (made_from_solved table accepted solved).every_fresh f old bits room in
        (as_filled ∙ M.returns, rw (is_made M) (M.is_assignment, M.does_satisfy))

  -- the bytes of an accepted call are as many bits as are free
  bytes_are : (f : List ℕ) (room work_room : ℕ) → Went table (own_answer table) f room work_room → Assignment (answer_record (rows_of table)).free f × (bits_of (rows_of table) ≤ room)
  unfolding wrong_fresh
  bytes_are f room work_room W =
      let rows = rows_back (solved_rows t) in
      let a = or_first (not (eqb (length f) (free_bits (answer_rows_of own)))) _ W.bytes in
      let b = or_second (not (eqb (length f) (free_bits (answer_rows_of own)))) _ W.bytes in
      let long : length f ≡ (answer_record t).free = eqb-true (length f) _ (not-false _ a) ∙ ap free_bits rows ∙ sym ((demand_3 table accepted).solved_free solved) in
      (subst (λ (n : ℕ). Assignment n f) long (bits-of f (not-false _ b)), omega (arith, W.fits, ap pattern_bits rows, pattern_length table accepted solved))

  -- (b)
  pub all_made : AllMade table
  all_made =
      record {
        every-run = λ f old work bits room memory. made f old work memory bits room;
        every_pattern = λ p m.
            let F = (made_from_solved table accepted solved).every_assignment p m.0 m.1 in
            record {
              bytes = F.bytes;
              accepted = λ old work room memory. (made F.bytes old work memory F.are_bits room).0;
              makes = λ old work room memory. is_made F.bytes old work memory ((made_from_solved table accepted solved).every_fresh F.bytes old F.are_bits room) ∙ F.make old room;
              no_other = λ f old work e q.
                  let W = went table own f (length old) (length work) e in
                  let B = bytes_are f (length old) (length work) W in
                  F.no_other f old B.0 B.1 (sym (is_made f old work W.memory ((made_from_solved table accepted solved).every_fresh f old B.0 B.1)) ∙ q);
            };
      }

-- (a)
pub made_meets : (table answer fresh old work : List ℕ) → (make_record table answer fresh (length old) (length work)).outcome ≡ 0
    → Meets table (pattern_made table answer fresh old (length work))
made_meets table answer fresh old work e =
    let W = went table answer fresh (length old) (length work) e in
    let O = right_own table answer W.right in
    let U : Went table (own_answer table) fresh (length old) (length work) = subst (λ (a : List ℕ). Went table a fresh (length old) (length work)) (sym O.1) W in
    let B = bytes_are table W.accepted O.0 fresh (length old) (length work) U in
    subst (λ (a : List ℕ). Meets table (pattern_made table a fresh old (length work))) O.1 (made table W.accepted O.0 fresh old work W.memory B.0 B.1).1
