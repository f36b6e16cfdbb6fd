-- Where a comparison stops (document 02, (xii)): what it returns and leaves, for all inputs; and an outcome of 0 to 3 is for two accepted tables
-- with the same variables, and an area with room, alone. Assumes nothing.
use mathlib.Core.Path.{◌≡◌, refl, sym, ◌∙◌, ap}
use mathlib.Core.Bool.{Bool, true, false}
use mathlib.Core.Logic.{◌≢◌, ◌⊎◌, inl, inr}
use mathlib.Core.List.{List}
use Prim.Native.Nat.{ℕ, ◌≤◌, ◌<◌}
use native.Mathlib.Omega.{arith}
use lib.ListN.{length, replicate}
use borrow.Author.Tests.{lt-ltb, le-ltb}
use Rattle.laws.proofs.Bools.{not_both}
use Rattle.laws.proofs.Numbers.{lt_or_le}
use Rattle.terms.specs.declared.Record.{Record}
use Rattle.std.specs.Prelude.{Ok, Err}
use Rattle.terms.specs.declared.Fault.TheVariants.{Shape, Kind, Unused, Named, Width, Value, Bounds, Count}
use Rattle.terms.specs.Table.{rows_of, bits_of, same_word}
use Rattle.terms.specs.Faults.{Found, Accepted, is_accepted, first_fault}
use Rattle.terms.specs.Calls.{refusal, fault_number, fault_record, stop_at, stopped}
use Rattle.terms.proofs.AcceptedTable.{fault_none, fault_high}
use Rattle.terms.proofs.Satisfies.{same-word, word_same}
use Rattle.answers.specs.Answer.{variable_widths}
use Rattle.answers.proofs.GeneralSystems.{width_sum}
use Rattle.answers.proofs.Variables.{widths_sum}
use Rattle.inclusion.specs.Call.{comparison, breaks49, compare_stops, compared_record, compare_record, compare_work}
use Rattle.inclusion.specs.Comparing.{Comparable, StoppedWith, Stops}
use Rattle.inclusion.proofs.Patterns.{one_of_four}

-- the widths of the variables agree, or not
pub same_widths : (ws vs : List ℕ) → ws ≡ vs → same_word ws vs ≡ true
same_widths ws vs e = rw e (word_same vs)

pub other_widths : (ws vs : List ℕ) → ws ≢ vs → same_word ws vs ≡ false
other_widths ws vs h = go (same_word ws vs) refl
  where
    go : (b : Bool) → same_word ws vs ≡ b → b ≡ false
    go true e = absurd (h (same-word ws vs e))
    go false e = refl

not_accepted : (f : Found) → f ≢ Accepted → is_accepted f ≡ false
not_accepted f h = go (is_accepted f) refl
  where
    go : (b : Bool) → is_accepted f ≡ b → b ≡ false
    go true e = absurd (h (fault_none f e))
    go false e = refl

never_49 : (f : Found) → fault_number f ≢ 49
never_49 (Ok x) e = omega (arith, e)
never_49 (Err Shape) e = omega (arith, e)
never_49 (Err (Kind r)) e = omega (arith, e)
never_49 (Err (Unused r)) e = omega (arith, e)
never_49 (Err (Named r)) e = omega (arith, e)
never_49 (Err (Width r)) e = omega (arith, e)
never_49 (Err (Value r)) e = omega (arith, e)
never_49 (Err (Bounds r)) e = omega (arith, e)
never_49 (Err (Count r)) e = omega (arith, e)

-- tables that can be compared have as many variable bits
pub as_many : (first second : List ℕ) (room : ℕ) → Comparable first second room → bits_of (rows_of first) ≡ bits_of (rows_of second)
as_many first second room c = sym (widths_sum (rows_of first)) ∙ ap width_sum c.same-variables ∙ widths_sum (rows_of second)

-- ---- the record of a call
module _ (first second : List ℕ) (room : ℕ) where
  no_room : room < 16384 → compare_record first second room ≡ refusal 10 0
  unfolding compare_record compare_stops stop_at
  no_room l = rw (lt-ltb room 16384 l) refl

  module _ (enough : 16384 ≤ room) where
    first-fault : is_accepted (first_fault first) ≡ false → compare_record first second room ≡ fault_record (first_fault first)
    unfolding compare_record compare_stops stop_at
    first-fault h = rw (le-ltb room 16384 enough, h) refl

    second_fault : first_fault first ≡ Accepted → is_accepted (first_fault second) ≡ false → compare_record first second room ≡ fault_record (first_fault second)
    unfolding compare_record compare_stops stop_at
    second_fault a h = rw (le-ltb room 16384 enough, a, h) refl

    record_49 : first_fault first ≡ Accepted → first_fault second ≡ Accepted → same_word (variable_widths (rows_of first)) (variable_widths (rows_of second)) ≡ false
        → compare_record first second room ≡ refusal 49 0
    unfolding compare_record compare_stops stop_at breaks49
    record_49 a b h = rw (le-ltb room 16384 enough, a, b, h) refl

  -- two tables that can be compared
  pub compare_is : Comparable first second room → compare_record first second room ≡ compared_record (comparison (rows_of first) (rows_of second))
  unfolding compare_record compare_stops stop_at breaks49
  compare_is c =
      rw (le-ltb room 16384 c.enough, c.first_accepted, c.second_accepted, same_widths (variable_widths (rows_of first)) (variable_widths (rows_of second)) c.same-variables) refl

  pub outcome_is : Comparable first second room → (compare_record first second room).outcome ≡ comparison (rows_of first) (rows_of second)
  outcome_is c = ap (λ (r : Record). r.outcome) (compare_is c)

  -- which way a call ends
  data Ending : Type 0 where
    without_room : room < 16384 → Ending
    by_first : 16384 ≤ room → is_accepted (first_fault first) ≡ false → Ending
    by_second : 16384 ≤ room → first_fault first ≡ Accepted → is_accepted (first_fault second) ≡ false → Ending
    by_49 : 16384 ≤ room → first_fault first ≡ Accepted → first_fault second ≡ Accepted
        → same_word (variable_widths (rows_of first)) (variable_widths (rows_of second)) ≡ false → Ending
    compared : Comparable first second room → Ending

  ending : Ending
  ending = go (lt_or_le room 16384) (is_accepted (first_fault first)) refl (is_accepted (first_fault second)) refl (same_word (variable_widths (rows_of first)) (variable_widths (rows_of second))) refl
    where
      go : (room < 16384) ⊎ (16384 ≤ room) → (a : Bool) → is_accepted (first_fault first) ≡ a → (b : Bool) → is_accepted (first_fault second) ≡ b
          → (w : Bool) → same_word (variable_widths (rows_of first)) (variable_widths (rows_of second)) ≡ w → Ending
      go (inl l) a h b k w m = without_room l
      go (inr l) false h b k w m = by_first l h
      go (inr l) true h false k w m = by_second l (fault_none (first_fault first) h) k
      go (inr l) true h true k false m = by_49 l (fault_none (first_fault first) h) (fault_none (first_fault second) k) m
      go (inr l) true h true k true m =
          compared (record {
            first_accepted = fault_none (first_fault first) h;
            second_accepted = fault_none (first_fault second) k;
            same-variables = same-word (variable_widths (rows_of first)) (variable_widths (rows_of second)) m;
            enough = l;
          })

  -- an outcome of 0 to 3 is for tables that can be compared, and 49 for other variables
  pub comparable : (compare_record first second room).outcome ≤ 3 → Comparable first second room
  comparable l = go ending
    where
      go : Ending → Comparable first second room
      go (without_room s) = absurd (omega (arith, ap (λ (r : Record). r.outcome) (no_room s)))
      go (by_first e h) = absurd (omega (arith, ap (λ (r : Record). r.outcome) (first-fault e h), fault_high (first_fault first) h))
      go (by_second e a h) = absurd (omega (arith, ap (λ (r : Record). r.outcome) (second_fault e a h), fault_high (first_fault second) h))
      go (by_49 e a b h) = absurd (omega (arith, ap (λ (r : Record). r.outcome) (record_49 e a b h)))
      go (compared c) = c

  exactly_49 : (compare_record first second room).outcome ≡ 49 → variable_widths (rows_of first) ≢ variable_widths (rows_of second)
  exactly_49 l same = go ending
    where
      go : Ending → ⊥
      go (without_room s) = omega (arith, l, ap (λ (r : Record). r.outcome) (no_room s))
      go (by_first e h) = never_49 (first_fault first) (sym (ap (λ (r : Record). r.outcome) (first-fault e h)) ∙ l)
      go (by_second e a h) = never_49 (first_fault second) (sym (ap (λ (r : Record). r.outcome) (second_fault e a h)) ∙ l)
      go (by_49 e a b h) = not_both (same_widths (variable_widths (rows_of first)) (variable_widths (rows_of second)) same) h
      go (compared c) = omega (arith, l, outcome_is c, one_of_four (rows_of first) (rows_of second))

-- ---- and the area
module _ (first second work : List ℕ) where
  pub stop_room : length work < 16384 → StoppedWith first second work (refusal 10 0)
  unfolding compare_work compare_stops stopped
  stop_room l = record { record_is = no_room first second (length work) l; area_kept = rw (lt-ltb (length work) 16384 l) refl }

  pub stop_first : 16384 ≤ length work → is_accepted (first_fault first) ≡ false → StoppedWith first second work (fault_record (first_fault first))
  unfolding compare_work compare_stops stopped
  stop_first l h = record { record_is = first-fault first second (length work) l h; area_kept = rw (le-ltb (length work) 16384 l, h) refl }

  pub stop_second : 16384 ≤ length work → first_fault first ≡ Accepted → is_accepted (first_fault second) ≡ false
      → StoppedWith first second work (fault_record (first_fault second))
  unfolding compare_work compare_stops stopped
  stop_second l a h = record { record_is = second_fault first second (length work) l a h; area_kept = rw (le-ltb (length work) 16384 l, a, h) refl }

  pub stop_49 : 16384 ≤ length work → first_fault first ≡ Accepted → first_fault second ≡ Accepted
      → same_word (variable_widths (rows_of first)) (variable_widths (rows_of second)) ≡ false → StoppedWith first second work (refusal 49 0)
  unfolding compare_work compare_stops stopped breaks49
  stop_49 l a b h = record { record_is = record_49 first second (length work) l a b h; area_kept = rw (le-ltb (length work) 16384 l, a, b, h) refl }

  pub work_is : Comparable first second (length work) → compare_work first second work ≡ replicate (length work) 0
  unfolding compare_work compare_stops stopped breaks49
  work_is c =
      rw (le-ltb (length work) 16384 c.enough, c.first_accepted, c.second_accepted, same_widths (variable_widths (rows_of first)) (variable_widths (rows_of second)) c.same-variables) refl

  -- (i)
  pub stops : Stops first second work
  stops =
      record {
        no_room = stop_room;
        first-fault = λ l h. stop_first l (not_accepted (first_fault first) h);
        second_fault = λ l a h. stop_second l a (not_accepted (first_fault second) h);
        other_variables = λ l a b h. stop_49 l a b (other_widths (variable_widths (rows_of first)) (variable_widths (rows_of second)) h);
        same-variables = λ c. record {
          outcome = comparison (rows_of first) (rows_of second);
          one_of_four = one_of_four (rows_of first) (rows_of second);
          record_is = compare_is first second (length work) c;
          area_cleared = work_is c;
        };
        only_49 = exactly_49 first second (length work);
        each_of_four = λ l. work_is (comparable first second (length work) l);
      }
