-- Each way in which the pattern call ends gives the record, the output and the work area of the definitions. Assumes nothing.
use mathlib.Core.Path.{◌≡◌, refl, sym, ◌∙◌}
use mathlib.Core.Bool.{true, false}
use mathlib.Core.List.{List}
use Prim.Native.Nat.{ℕ, ◌<◌, ◌≤◌}
use lib.ListN.{length, replicate}
use borrow.Author.Tests.{lt-ltb, le-ltb}
use Rattle.terms.specs.declared.Record.{Record}
use Rattle.terms.specs.Calls.{refusal, fault_record, stop_at, stopped}
use Rattle.terms.specs.Faults.{Accepted, is_accepted, first_fault}
use Rattle.assignments.specs.Form.{has_form}
use Rattle.assignments.specs.Call.{pattern_record, pattern_after}
use Rattle.assignments.specs.Matching.{other_answer, make_stops, make_record, make_after, make_work}
use Rattle.assignments.proofs.Matched.{right_record, right_after}

module _ (table answer fresh old work : List ℕ) where
  -- the record, the output and the work area of a call
  abbrev pub Ends : Record → List ℕ → List ℕ → Type 0
  Ends r out work' =
      (r ≡ make_record table answer fresh (length old) (length work))
      × ((out ≡ make_after table answer fresh old (length work)) × (work' ≡ make_work table answer fresh (length old) work))

  -- refused for want of memory
  pub stop_memory : length work < 16384 → (r : Record) → r ≡ refusal 10 0 → Ends r old work
  unfolding make_record make_after make_work make_stops stop_at stopped
  stop_memory l r e = rw (lt-ltb (length work) 16384 l) (e, (refl, refl))

  module _ (memory : 16384 ≤ length work) where
    -- refused for a fault of the table
    pub stop_fault : is_accepted (first_fault table) ≡ false → (r : Record) → r ≡ fault_record (first_fault table) → Ends r old work
    unfolding make_record make_after make_work make_stops stop_at stopped
    stop_fault h r e = rw (le-ltb (length work) 16384 memory, h) (e, (refl, refl))

    module _ (accepted : first_fault table ≡ Accepted) where
      -- refused for the form of the answer
      pub stop_33 : has_form answer ≡ false → (r : Record) → r ≡ refusal 33 0 → Ends r old work
      unfolding make_record make_after make_work make_stops stop_at stopped
      stop_33 h r e = rw (le-ltb (length work) 16384 memory, accepted, h) (e, (refl, refl))

      module _ (form : has_form answer ≡ true) where
        -- past 33 the work area is 0
        past_33 : make_work table answer fresh (length old) work ≡ replicate (length work) 0
        unfolding make_work make_stops stopped
        past_33 = rw (le-ltb (length work) 16384 memory, accepted, form) refl

        -- refused for another answer
        pub stop_46 : other_answer table answer ≡ true → (r : Record) (work' : List ℕ) → r ≡ refusal 46 0 → work' ≡ replicate (length work) 0 → Ends r old work'
        unfolding make_record make_after make_stops stop_at stopped
        stop_46 h r work' e w = (e ∙ rw (le-ltb (length work) 16384 memory, accepted, form, h) refl, (rw (le-ltb (length work) 16384 memory, accepted, form, h) refl, w ∙ rw past_33))

        module _ (same : other_answer table answer ≡ false) where
          -- the right answer is filled
          pub fill_right : (r : Record) (out work' : List ℕ) → (r ≡ pattern_record answer fresh (length old)) × (out ≡ pattern_after answer fresh old)
              → work' ≡ replicate (length work) 0 → Ends r out work'
          fill_right r out work' k w = (k.0 ∙ sym (right_record table answer fresh old (length work) memory accepted form same), (k.1 ∙ sym (right_after table answer fresh old (length work) memory accepted form same), w ∙ sym past_33))
