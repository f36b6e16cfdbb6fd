-- Each way in which a comparison ends gives the record and the work area of the definitions.
use mathlib.Core.Path.{◌≡◌, sym, ◌∙◌, ap}
use mathlib.Core.Bool.{true, false}
use mathlib.Core.List.{List}
use Prim.Native.Nat.{ℕ, ◌≤◌}
use lib.ListN.{length, replicate}
use Rattle.std.specs.Prelude.{Ok, Err}
use Rattle.terms.specs.declared.Record.{Record}
use Rattle.terms.specs.Table.{rows_of, bits_of, same_word}
use Rattle.terms.specs.declared.Fault.{Fault}
use Rattle.terms.specs.Faults.{Accepted, is_accepted, first_fault}
use Rattle.records.specs.declared.Refusal.TheVariants.{Table, Variables}
use Rattle.terms.proofs.Satisfies.{same-word}
use Rattle.answers.specs.Answer.{variable_widths}
use Rattle.inclusion.specs.Call.{comparison, compared_record, compare_record, compare_work}
use Rattle.inclusion.specs.Comparing.{Comparable, StoppedWith}
use Rattle.inclusion.proofs.Stops.{as_many, compare_is, stop_second, stop_49, work_is}
use Rattle.comparer.specs.inner.Comparing.{SecondStop}

-- the record and the work area of a call
abbrev pub Ends : List ℕ → List ℕ → List ℕ → Record → List ℕ → Type 0
Ends first second work r work' = (r ≡ compare_record first second (length work)) × (work' ≡ compare_work first second work)

-- the call stops
pub ends_stopped : (first second work : List ℕ) (found r : Record) → StoppedWith first second work found → r ≡ found → Ends first second work r work
ends_stopped first second work found r s e = (e ∙ sym s.record_is, sym s.area_kept)

-- two accepted tables with the same variables
module _ (first second work : List ℕ) (af : first_fault first ≡ Accepted) (ag : first_fault second ≡ Accepted)
    (same : variable_widths (rows_of first) ≡ variable_widths (rows_of second)) (room : 16384 ≤ length work) where
  can_compare : Comparable first second (length work)
  can_compare = record { first_accepted = af; second_accepted = ag; same-variables = same; enough = room }

  pub bits_alike : (bits : ℕ) → bits ≡ bits_of (rows_of first) → bits ≡ bits_of (rows_of second)
  bits_alike bits e = e ∙ as_many first second (length work) can_compare

  pub ends_compared : (found : ℕ) → found ≡ comparison (rows_of first) (rows_of second) → (r : Record) → r ≡ compared_record found
      → (work' : List ℕ) → work' ≡ replicate (length work) 0 → Ends first second work r work'
  ends_compared found e r f work' w = (f ∙ ap compared_record e ∙ sym (compare_is first second (length work) can_compare), w ∙ sym (work_is first second work can_compare))

-- where the second table is looked at: its fault, other variables, or none of both
module _ (first second : List ℕ) where
  pub stops_fault : (f : Fault) → first_fault second ≡ Err f → SecondStop first second (Err (Table f))
  stops_fault f is = λ a work room. rw is at (stop_second first second work room a (ap is_accepted is))

  pub stops_49 : first_fault second ≡ Accepted → same_word (variable_widths (rows_of first)) (variable_widths (rows_of second)) ≡ false
      → SecondStop first second (Err Variables)
  stops_49 ag other = λ a work room. stop_49 first second work room a ag other

  pub stops_nowhere : first_fault second ≡ Accepted → same_word (variable_widths (rows_of first)) (variable_widths (rows_of second)) ≡ true
      → SecondStop first second (Ok tt)
  stops_nowhere ag same = (ag, same-word (variable_widths (rows_of first)) (variable_widths (rows_of second)) same)
