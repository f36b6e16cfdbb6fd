-- The theorems of two tables compared (document 02, (xii)), of the call's outcome: what each says of the patterns (a), never tables (c), the
-- tables exchanged (d), a table and itself, and three in a chain (e), two that give 0 against a third (g). (b) is SameAnswers.antt,
-- (f) OneMore.antt, (h) FreeBits.antt, (i) Stops.antt. Assumes nothing.
use mathlib.Core.Path.{◌≡◌, refl, sym, ◌∙◌, ap}
use mathlib.Core.Bool.{Bool, true, false, not, or-true}
use mathlib.Core.Logic.{◌≢◌}
use mathlib.Core.List.{List}
use Prim.Native.Nat.{ℕ, ◌≤◌}
use native.Mathlib.Omega.{arith}
use lib.Dec.{ltb}
use Rattle.terms.specs.declared.Record.{Record}
use Rattle.terms.specs.Table.{rows_of, same_word}
use Rattle.terms.specs.Faults.{Accepted, is_accepted, first_fault}
use Rattle.terms.specs.Calls.{stop_at, stopped}
use Rattle.terms.proofs.Satisfies.{same-word}
use Rattle.terms.proofs.Stopping.{stops_alike}
use Rattle.answers.specs.Answer.{variable_widths}
use Rattle.answers.specs.Solve.{valid, unsatisfiable, answer_record}
use Rattle.answers.proofs.GeneralSystems.{width_sum}
use Rattle.answers.proofs.Tables.{not_valid}
use Rattle.answers.proofs.Variables.{widths_sum}
use Rattle.inclusion.specs.Call.{comparison, breaks49, compare_stops, compared_record, compare_record}
use Rattle.inclusion.specs.Comparing.{Comparable, SamePatterns, Compared, NeverStrictest, Chained, SameAgainst, turned}
use Rattle.inclusion.proofs.Patterns.{never_among, among_never, patterns_compared, comparison-turned, comparison_itself, comparison_chained, same_third}
use Rattle.inclusion.proofs.Stops.{as_many, compare_is, outcome_is, comparable}

-- (a) What each outcome says of the patterns.
pub compared : (first second : List ℕ) (room : ℕ) → Comparable first second room → Compared (rows_of first) (rows_of second) (compare_record first second room).outcome
compared first second room c = rw (outcome_is first second room c) (patterns_compared (rows_of first) (rows_of second) (as_many first second room c))

-- as the solver tells a never
module _ (table : List ℕ) (accepted : first_fault table ≡ Accepted) where
  never_to : (answer_record (rows_of table)).outcome ≡ 1 → unsatisfiable (rows_of table) ≡ true
  unfolding answer_record
  never_to e = go (valid (rows_of table)) refl (unsatisfiable (rows_of table)) refl
    where
      go : (a : Bool) → valid (rows_of table) ≡ a → (b : Bool) → unsatisfiable (rows_of table) ≡ b → b ≡ true
      go true h b k = let o : (answer_record (rows_of table)).outcome ≡ 0 = rw h refl in absurd (omega (arith, e, o))
      go false h true k = refl
      go false h false k = let o : (answer_record (rows_of table)).outcome ≡ 2 = rw (h, k) refl in absurd (omega (arith, e, o))

  left_to : (answer_record (rows_of table)).outcome ≢ 1 → unsatisfiable (rows_of table) ≡ false
  unfolding answer_record
  left_to e = go (unsatisfiable (rows_of table)) refl
    where
      go : (b : Bool) → unsatisfiable (rows_of table) ≡ b → b ≡ false
      go true k = absurd (e (rw (not_valid table accepted k, k) refl))
      go false k = refl

-- (c) A never table is stricter than every table that is none; two of them are the same.
module _ (first second : List ℕ) (room : ℕ) (c : Comparable first second room) where
  pub never_strictest : NeverStrictest (rows_of first) (rows_of second) (compare_record first second room).outcome
  unfolding comparison
  never_strictest =
      record {
        first_never = λ n s.
            let x = never_to first c.first_accepted n in
            let y = left_to second c.second_accepted s in
            outcome_is first second room c ∙ rw (never_among (rows_of first) (rows_of second) x, among_never (rows_of second) (rows_of first) (sym (as_many first second room c)) y x) refl;
        second_never = λ s n.
            let x = left_to first c.first_accepted s in
            let y = never_to second c.second_accepted n in
            outcome_is first second room c ∙ rw (among_never (rows_of first) (rows_of second) (as_many first second room c) x y, never_among (rows_of second) (rows_of first) y) refl;
        both_never = λ n m.
            outcome_is first second room c
            ∙ rw (never_among (rows_of first) (rows_of second) (never_to first c.first_accepted n), never_among (rows_of second) (rows_of first) (never_to second c.second_accepted m)) refl;
      }

-- (d) The tables exchanged.
turned_round : (first second : List ℕ) (room : ℕ) → Comparable first second room → Comparable second first room
turned_round first second room c =
    record { first_accepted = c.second_accepted; second_accepted = c.first_accepted; same-variables = sym c.same-variables; enough = c.enough }

pub exchanged : (first second : List ℕ) (room : ℕ) → Comparable first second room
    → compare_record second first room ≡ compared_record (turned (compare_record first second room).outcome)
exchanged first second room c =
    compare_is second first room (turned_round first second room c)
    ∙ ap compared_record (comparison-turned (rows_of first) (rows_of second) ∙ ap turned (sym (outcome_is first second room c)))

-- (e) A table and itself; three tables.
pub itself : (table : List ℕ) (room : ℕ) → first_fault table ≡ Accepted → 16384 ≤ room → compare_record table table room ≡ compared_record 0
itself table room accepted enough =
    compare_is table table room (record { first_accepted = accepted; second_accepted = accepted; same-variables = refl; enough = enough })
    ∙ ap compared_record (comparison_itself (rows_of table))

pub chained : (first second third : List ℕ) (room : ℕ) → Comparable first second room → Comparable second third room
    → (compare_record first second room).outcome ≤ 1 → (compare_record second third room).outcome ≤ 1
    → Chained (compare_record first second room).outcome (compare_record second third room).outcome (compare_record first third room).outcome
chained first second third room c d h k =
    let e : Comparable first third room =
    record { first_accepted = c.first_accepted; second_accepted = d.second_accepted; same-variables = c.same-variables ∙ d.same-variables; enough = c.enough } in
    rw (outcome_is first second room c, outcome_is second third room d, outcome_is first third room e)
    (comparison_chained (rows_of first) (rows_of second) (rows_of third) (as_many first second room c) (as_many second third room d)
    (omega (arith, h, outcome_is first second room c)) (omega (arith, k, outcome_is second third room d)))

-- (g) Two tables that give 0 have the same variables and the same patterns.
pub gives_0 : (first second : List ℕ) (room : ℕ) → (compare_record first second room).outcome ≡ 0
    → Comparable first second room × SamePatterns (rows_of first) (rows_of second)
gives_0 first second room z =
    let c = comparable first second room (omega (arith, z)) in
    (c, (compared first second room c).same.to z)

-- a call on two tables stops, or they have the same variables
either_stops : (first second : List ℕ) (room : ℕ) (x y : Record) → (variable_widths (rows_of first) ≡ variable_widths (rows_of second) → x ≡ y)
    → stop_at (compare_stops first second room) x ≡ stop_at (compare_stops first second room) y
either_stops first second room x y h = go (same_word (variable_widths (rows_of first)) (variable_widths (rows_of second))) refl
  where
    all_stop : same_word (variable_widths (rows_of first)) (variable_widths (rows_of second)) ≡ false → stopped (compare_stops first second room) ≡ true
    all_stop w =
        unfold compare_stops stopped breaks49 in
        (rw (w, or-true (not (is_accepted (first_fault second))), or-true (not (is_accepted (first_fault first))), or-true (ltb room 16384)) refl)

    go : (b : Bool) → same_word (variable_widths (rows_of first)) (variable_widths (rows_of second)) ≡ b
        → stop_at (compare_stops first second room) x ≡ stop_at (compare_stops first second room) y
    go true w = ap (stop_at (compare_stops first second room)) (h (same-word (variable_widths (rows_of first)) (variable_widths (rows_of second)) w))
    go false w = stops_alike (compare_stops first second room) x y (all_stop w)

-- So they give the same record against every third.
module _ (first second : List ℕ) (enough : ℕ) (z : (compare_record first second enough).outcome ≡ 0) (third : List ℕ) (room : ℕ) where
  c : Comparable first second enough
  c = (gives_0 first second enough z).0

  same_faults : first_fault first ≡ first_fault second
  same_faults = c.first_accepted ∙ sym c.second_accepted

  stops_first : compare_stops first third room ≡ compare_stops second third room
  unfolding compare_stops breaks49
  stops_first = rw (same_faults, c.same-variables) refl

  stops_second : compare_stops third first room ≡ compare_stops third second room
  unfolding compare_stops breaks49
  stops_second = rw (same_faults, c.same-variables) refl

  compare_third : variable_widths (rows_of second) ≡ variable_widths (rows_of third)
      → (comparison (rows_of first) (rows_of third) ≡ comparison (rows_of second) (rows_of third))
      × (comparison (rows_of third) (rows_of first) ≡ comparison (rows_of third) (rows_of second))
  compare_third w =
      same_third (rows_of first) (rows_of second) (as_many first second enough c) (gives_0 first second enough z).1 (rows_of third)
      (sym (widths_sum (rows_of third)) ∙ ap width_sum (sym (c.same-variables ∙ w)) ∙ widths_sum (rows_of first))

  pub same_against : SameAgainst first second third room
  unfolding compare_record
  same_against =
      record {
        as_first =
            ap (λ (s : List (Bool × Record)). stop_at s (compared_record (comparison (rows_of first) (rows_of third)))) stops_first
            ∙ either_stops second third room _ _ (λ w. ap compared_record (compare_third w).0);
        as_second =
            ap (λ (s : List (Bool × Record)). stop_at s (compared_record (comparison (rows_of third) (rows_of first)))) stops_second
            ∙ either_stops third second room _ _ (λ w. ap compared_record (compare_third (sym w)).1);
      }
